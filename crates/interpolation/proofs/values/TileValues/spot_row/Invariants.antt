use Rattle.std.specs.Prelude.{◌≡◌, length}
use Rattle.interpolation.specs.Rows.{AreSpotsOf}
use Rattle.interpolation.proofs.values.TileValues.spot_row.Given as goal

abbrev pub invariant-loop-i : goal.invariant-loop-i
invariant-loop-i l = record {
  len : length l.spots ≡ 17;
  done : AreSpotsOf l.self l.row l.from l.i l.spots;
}
