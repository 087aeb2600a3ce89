use Rattle.image_commands.specs.Written.{IsGood}
use Rattle.image_commands.proofs.tests.contents_and_levels_that_are_made.Given as goal

abbrev pub invariant-loop-k : goal.invariant-loop-k
invariant-loop-k g l = IsGood l.image
