use Rattle.std.specs.Prelude.{◌≡◌, ◌<◌, ℕ, length, slice_index}
use Rattle.std.specs.Int.{bit_at}
use Rattle.gl_records.specs.LevelOfDetail.{rho}
use Rattle.interpolation.specs.TileValues.{x_of, y_of}
use Rattle.texture_env.proofs.coordinate_rows.rho_row.Given as goal

abbrev pub invariant-loop-i : goal.invariant-loop-i
invariant-loop-i l = record {
  len : length l.rhos ≡ 16;
  done : (j : ℕ) → j < l.i → bit_at l.bits j ≡ 1
      → slice_index l.rhos j ≡ rho l.at.on.prim l.k l.w l.h (x_of l.at.on j) (y_of l.at.on l.at.row);
}
