use Rattle.std.proofs.Common.{◌≡◌, ℕ, ◌+◌, ◌<◌, pos, length, slice_index}
use Rattle.std.specs.Prelude.{if◌then◌else◌}
use Rattle.std.specs.Int.{bit_at}
use Rattle.coverage.specs.Runs.{covers_of}
use Rattle.coverage.proofs.line.runs.Given as goal

abbrev pub invariant-loop-k : goal.invariant-loop-k
invariant-loop-k l = record {
  count : length l.bits ≡ 16;
  done : (k : ℕ) → k < l.k → (r : ℕ) → r < 16 → bit_at (slice_index l.bits k) r
      ≡ (if covers_of l.line (pos (l.along + k)) (pos (l.across + r)) then 1 else 0);
}
