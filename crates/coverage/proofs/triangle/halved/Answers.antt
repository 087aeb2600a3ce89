use Rattle.std.proofs.Common.{arith, ◌≡◌, ◌+◌, pos, ◌+ℤ◌, ◌*ℤ◌, FitsSigned, w64, to_z}
use Rattle.std.proofs.lemmas.Int.{ints, to_z-of_z}
use Rattle.coverage.proofs.StepLemmas.{stepped_fits}
use Rattle.coverage.proofs.triangle.halved.Goals as goal

pub returns-then-value-from-lt0-clause-near : goal.returns-then-value-from-lt0-clause-near
returns-then-value-from-lt0-clause-near c =
    let value_fits : FitsSigned w64 c.args.value = c.ranges.value in
    let step_fits : FitsSigned w64 c.args.step = c.ranges.step in
    let place_is : to_z w64 (c.args.near + c.args.half) ≡ pos (c.args.near + c.args.half) = omega (arith, ints) in
    let fit = stepped_fits c.args.value c.args.step (c.args.near + c.args.half) c.requires.places c.requires.value_small c.requires.step_small in
    let product_fits : FitsSigned w64 (pos (c.args.near + c.args.half) *ℤ c.args.step) = fit.0 in
    let sum_fits : FitsSigned w64 (c.args.value +ℤ (pos (c.args.near + c.args.half) *ℤ c.args.step)) = fit.1 in
    let test = simp (c.from.ensures, place_is, to_z-of_z) at c.if-value-from-lt0.true in
    omega (arith, ints, test)

pub returns-else-value-from-lt0-clause-end : goal.returns-else-value-from-lt0-clause-end
returns-else-value-from-lt0-clause-end c =
    let value_fits : FitsSigned w64 c.args.value = c.ranges.value in
    let step_fits : FitsSigned w64 c.args.step = c.ranges.step in
    let place_is : to_z w64 (c.args.near + c.args.half) ≡ pos (c.args.near + c.args.half) = omega (arith, ints) in
    let fit = stepped_fits c.args.value c.args.step (c.args.near + c.args.half) c.requires.places c.requires.value_small c.requires.step_small in
    let product_fits : FitsSigned w64 (pos (c.args.near + c.args.half) *ℤ c.args.step) = fit.0 in
    let sum_fits : FitsSigned w64 (c.args.value +ℤ (pos (c.args.near + c.args.half) *ℤ c.args.step)) = fit.1 in
    let test = simp (c.from.ensures, place_is, to_z-of_z) at c.if-value-from-lt0.false in
    omega (arith, ints, test)
