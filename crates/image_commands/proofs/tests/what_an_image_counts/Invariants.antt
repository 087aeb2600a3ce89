use Rattle.image_commands.specs.Written.{IsGood}
use Rattle.image_commands.proofs.tests.what_an_image_counts.Given as goal

abbrev pub invariant-loop-level : goal.invariant-loop-level
invariant-loop-level g l = IsGood l.image
