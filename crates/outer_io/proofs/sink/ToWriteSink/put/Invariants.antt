use Rattle.std.proofs.Common.{◌≡◌, ◌≤◌, List, ℕ, ◌++◌, length}
use Rattle.std.specs.Io.KnownBytes.{Appends}
use Rattle.outer_io.proofs.sink.ToWriteSink.put.Given as goal

abbrev pub invariant-loop-rest : goal.invariant-loop-rest
invariant-loop-rest g l = record {
  taken : (front : List ℕ) × (l.fn.piece ≡ front ++ l.rest) × Appends (g.W.Write.contents l.initial.self.writer) (g.W.Write.contents l.self.writer) front;
  faults : l.initial.self.faults ≤ l.self.faults;
}

abbrev pub decreases-loop-rest : goal.decreases-loop-rest
decreases-loop-rest g l = length l.rest
