use Rattle.std.proofs.Common.{◌≡◌, ℕ, ◌<◌, ◌≤◌, slice_index}
use Rattle.std.specs.Int.{bit_at}
use Rattle.coverage.proofs.line.column.Given as goal

abbrev pub invariant-loop-i : goal.invariant-loop-i
invariant-loop-i l = record {
  done : (j : ℕ) → j < l.i → bit_at l.gathered j ≡ bit_at (slice_index l.bits j) l.r;
  blank : (j : ℕ) → l.i ≤ j → bit_at l.gathered j ≡ 0;
}
