use Rattle.std.specs.Prelude.{◌≡◌, ◌<◌, ℕ, length}
use Rattle.fx_arith.specs.Number.{component}
use Rattle.texture_env.proofs.known_rows.known_coordinate_row.Given as goal

abbrev pub invariant-loop-i : goal.invariant-loop-i
invariant-loop-i l = record {
  len_s : length l.s ≡ 16;
  len_t : length l.t ≡ 16;
  done_s : (j : ℕ) → j < l.i → component l.s j ≡ component l.line.s j;
  done_t : (j : ℕ) → j < l.i → component l.t j ≡ component l.line.t j;
}
