use Rattle.std.specs.Prelude.{◌≡◌, ◌<◌, ℕ, [], length, get_or}
use Rattle.std.specs.Int.{bit_at}
use Rattle.gl_records.specs.Interpolation.{interpolated_color}
use Rattle.interpolation.specs.TileValues.{x_of, y_of}
use Rattle.texture_env.proofs.rows.primary_row.Given as goal

abbrev pub invariant-loop-i : goal.invariant-loop-i
invariant-loop-i l = record {
  len : length l.colors ≡ 16;
  done : (j : ℕ) → j < l.i → bit_at l.bits j ≡ 1
      → get_or l.colors j [] ≡ interpolated_color l.at.on.prim (x_of l.at.on j) (y_of l.at.on l.at.row);
}
