use Rattle.std.specs.Prelude.{◌≡◌, ◌<◌, ℕ, [], get_or, length}
use Rattle.fx_arith.specs.Number.{component}
use Rattle.interpolation.specs.Rows.{IsJoined}
use Rattle.interpolation.proofs.color_rows.joined_row.Given as goal

abbrev pub invariant-loop-i : goal.invariant-loop-i
invariant-loop-i l = record {
  len : length l.colors ≡ 16;
  done : (j : ℕ) → j < l.i
      → IsJoined (component l.rows.red j) (component l.rows.green j) (component l.rows.blue j) (component l.rows.alpha j) (get_or l.colors j []);
}
