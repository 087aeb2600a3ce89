use Rattle.std.proofs.Common.{◌≡◌, ℕ, ◌<◌, min, length, slice_index}
use Rattle.std.specs.Int.{bit_at}
use Rattle.coverage.proofs.point.repeated.Given as goal

abbrev pub invariant-loop-r : goal.invariant-loop-r
invariant-loop-r l = record {
  count : length l.bits ≡ 16;
  done : (r : ℕ) → r < l.r → (i : ℕ) → i < 16 → bit_at (slice_index l.bits r) i ≡ min (bit_at l.columns i) (bit_at l.rows r);
}
