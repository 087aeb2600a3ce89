use Rattle.std.specs.Prelude.{◌≡◌, ◌<◌, ◌≤◌, ℕ, [], Some, length, get_or}
use Rattle.std.specs.Int.{bit_at}
use Rattle.gl_records.specs.FogColor.{fogged}
use Rattle.interpolation.specs.TileValues.{x_of, y_of}
use Rattle.texture_env.proofs.rows.in_fog_row.Given as goal

abbrev pub invariant-loop-i : goal.invariant-loop-i
invariant-loop-i l = record {
  len : length l.colors ≡ 16;
  done : (j : ℕ) → j < l.i → bit_at l.bits j ≡ 1
      → get_or l.colors j [] ≡ fogged (Some l.fog) l.at.on.prim (x_of l.at.on j) (y_of l.at.on l.at.row) (get_or l.fn.colors j []);
  left : (j : ℕ) → l.i ≤ j → get_or l.colors j [] ≡ get_or l.fn.colors j [];
}
