use Rattle.std.proofs.Common.{FitsSigned, w64}
use Rattle.std.proofs.lemmas.Int.{to_z-of_z}
use Rattle.coverage.proofs.StepLemmas.{below_until}
use Rattle.coverage.proofs.triangle.below_zero.Goals as goal

pub returns-clause-exact : goal.returns-clause-exact
returns-clause-exact c k within =
    let value_fits : FitsSigned w64 c.args.value = c.ranges.value in
    let step_fits : FitsSigned w64 c.args.step = c.ranges.step in
    below_until c.args.value c.args.step c.halved-far-4.result
    (simp to_z-of_z at c.halved-far-4.ensures.near) (simp to_z-of_z at c.halved-far-4.ensures.end) k
