use Rattle.std.specs.Prelude.{◌≡◌, ◌+◌, ◌<◌, ℕ, length, slice_index}
use Rattle.texture_env.specs.Coordinates.{greatest_move}
use Rattle.texture_env.specs.Lines.{known_at}
use Rattle.texture_env.proofs.known_rows.known_move_row.Given as goal

abbrev pub invariant-loop-i : goal.invariant-loop-i
invariant-loop-i l = record {
  len : length l.moves ≡ 16;
  done : (j : ℕ) → j < l.i
      → slice_index l.moves j ≡ greatest_move l.w l.h (known_at l.here j) (known_at l.here (j + 1)) (known_at l.above j);
}
