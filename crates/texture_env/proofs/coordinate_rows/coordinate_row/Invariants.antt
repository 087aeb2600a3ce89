use Rattle.std.specs.Prelude.{◌≡◌, ◌<◌, ℕ, length}
use Rattle.std.specs.Int.{bit_at}
use Rattle.fx_arith.specs.Number.{component}
use Rattle.gl_records.specs.TextureCoordinate.{s_at, t_at}
use Rattle.interpolation.specs.TileValues.{x_of, y_of}
use Rattle.texture_env.proofs.coordinate_rows.coordinate_row.Given as goal

abbrev pub invariant-loop-i : goal.invariant-loop-i
invariant-loop-i l = record {
  len_s : length l.s ≡ 16;
  len_t : length l.t ≡ 16;
  done_s : (j : ℕ) → j < l.i → bit_at l.bits j ≡ 1 → component l.s j ≡ s_at l.at.on.prim l.k (x_of l.at.on j) (y_of l.at.on l.at.row);
  done_t : (j : ℕ) → j < l.i → bit_at l.bits j ≡ 1 → component l.t j ≡ t_at l.at.on.prim l.k (x_of l.at.on j) (y_of l.at.on l.at.row);
}
