use Rattle.std.proofs.Common.{◌≡◌, ◌+◌, ◌<◌, ◌≤◌, ℕ}
use Rattle.std.specs.Prelude.{if◌then◌else◌}
use Rattle.std.specs.Int.{bit_at}
use Rattle.whole_surface.specs.Parts.{in_columns}
use Rattle.whole_surface.proofs.rows.column_bits.Given as goal

abbrev pub invariant-loop-i : goal.invariant-loop-i
invariant-loop-i l = record {
  done : (j : ℕ) → j < l.i → bit_at l.bits j ≡ (if in_columns l.area (l.x0 + j) then 1 else 0);
  blank : (j : ℕ) → l.i ≤ j → bit_at l.bits j ≡ 0;
}
