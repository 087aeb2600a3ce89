use Rattle.std.proofs.Common.{◌≡◌, ℕ, ◌<◌, length, slice_index}
use Rattle.std.specs.Int.{bit_at}
use Rattle.coverage.proofs.line.transposed.Given as goal

abbrev pub invariant-loop-r : goal.invariant-loop-r
invariant-loop-r l = record {
  count : length l.rows ≡ 16;
  done : (r : ℕ) → r < l.r → (i : ℕ) → i < 16 → bit_at (slice_index l.rows r) i ≡ bit_at (slice_index l.bits i) r;
}
