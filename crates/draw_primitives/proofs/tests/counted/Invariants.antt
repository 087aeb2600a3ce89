use Rattle.draw_primitives.specs.Known.{AreKnown}
use Rattle.draw_primitives.proofs.tests.counted.Given as goal

abbrev pub invariant-loop : goal.invariant-loop
invariant-loop l = AreKnown l.memory l.draw
