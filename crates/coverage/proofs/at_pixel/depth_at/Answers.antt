use Rattle.std.proofs.Common.{rules, FitsSigned, w32, w64}
use Rattle.std.proofs.lemmas.Int.{to_z-of_z}
use Rattle.gl_records.specs.Coverage.{corner}
use Rattle.gl_records.specs.Weights.{weight}
use Rattle.coverage.proofs.DepthLemmas.{depth-from, z-fits}
use Rattle.coverage.proofs.WeightLemmas.{AreWeights-covered, weight-fits}
use Rattle.coverage.proofs.at_pixel.depth_at.Goals as goal

pub depth_sum-requires-clause-weights : goal.depth_sum-requires-clause-weights
depth_sum-requires-clause-weights c =
    let x_fits : FitsSigned w32 c.args.x = c.ranges.x in
    let y_fits : FitsSigned w32 c.args.y = c.ranges.y in
    let is = simp to_z-of_z at c.weights.ensures.value in
    let all = AreWeights-covered c.args.p.now c.args.x c.args.y c.requires.in_range c.requires.covered in
    let fit = weight-fits _ _ _ all in
    let u_fits : FitsSigned w64 (weight c.args.p.now 0 c.args.x c.args.y) = fit.0 in
    let v_fits : FitsSigned w64 (weight c.args.p.now 1 c.args.x c.args.y) = fit.1 in
    let w_fits : FitsSigned w64 (weight c.args.p.now 2 c.args.x c.args.y) = fit.2 in
    rw is (simp to_z-of_z all)

pub total-requires : goal.total-requires
total-requires c =
    let x_fits : FitsSigned w32 c.args.x = c.ranges.x in
    let y_fits : FitsSigned w32 c.args.y = c.ranges.y in
    let is = simp to_z-of_z at c.weights.ensures.value in
    let all = AreWeights-covered c.args.p.now c.args.x c.args.y c.requires.in_range c.requires.covered in
    let fit = weight-fits _ _ _ all in
    let u_fits : FitsSigned w64 (weight c.args.p.now 0 c.args.x c.args.y) = fit.0 in
    let v_fits : FitsSigned w64 (weight c.args.p.now 1 c.args.x c.args.y) = fit.1 in
    let w_fits : FitsSigned w64 (weight c.args.p.now 2 c.args.x c.args.y) = fit.2 in
    rw is (simp to_z-of_z all)

pub clamped_quotient-requires : goal.clamped_quotient-requires
clamped_quotient-requires c =
    let x_fits : FitsSigned w32 c.args.x = c.ranges.x in
    let y_fits : FitsSigned w32 c.args.y = c.ranges.y in
    let is = simp to_z-of_z at c.weights.ensures.value in
    let all = AreWeights-covered c.args.p.now c.args.x c.args.y c.requires.in_range c.requires.covered in
    let fit = weight-fits _ _ _ all in
    let u_fits : FitsSigned w64 (weight c.args.p.now 0 c.args.x c.args.y) = fit.0 in
    let v_fits : FitsSigned w64 (weight c.args.p.now 1 c.args.x c.args.y) = fit.1 in
    let w_fits : FitsSigned w64 (weight c.args.p.now 2 c.args.x c.args.y) = fit.2 in
    let total_fits : FitsSigned w64 c.total.result = search rules in
    let told = rw is at c.total.ensures in
    let total_is = simp to_z-of_z at told in
    simp to_z-of_z (rw total_is all.sum_above)

pub returns-clause-value : goal.returns-clause-value
returns-clause-value c =
    let x_fits : FitsSigned w32 c.args.x = c.ranges.x in
    let y_fits : FitsSigned w32 c.args.y = c.ranges.y in
    let is = simp to_z-of_z at c.weights.ensures.value in
    let all = AreWeights-covered c.args.p.now c.args.x c.args.y c.requires.in_range c.requires.covered in
    let fit = weight-fits _ _ _ all in
    let u_fits : FitsSigned w64 (weight c.args.p.now 0 c.args.x c.args.y) = fit.0 in
    let v_fits : FitsSigned w64 (weight c.args.p.now 1 c.args.x c.args.y) = fit.1 in
    let w_fits : FitsSigned w64 (weight c.args.p.now 2 c.args.x c.args.y) = fit.2 in
    let total_fits : FitsSigned w64 c.total.result = search rules in
    let sum_fits : FitsSigned w64 c.depth_sum.result = search rules in
    let first_fits : FitsSigned w32 (corner c.args.p.now 0).z = z-fits c.requires.in_range.first in
    let second_fits : FitsSigned w32 (corner c.args.p.now 1).z = z-fits c.requires.in_range.second in
    let third_fits : FitsSigned w32 (corner c.args.p.now 2).z = z-fits c.requires.in_range.third in
    let total_told = rw is at c.total.ensures in
    let total_is = simp to_z-of_z at total_told in
    let sum_told = rw is at c.depth_sum.ensures in
    let sum_is = simp to_z-of_z at sum_told in
    let value_is = simp to_z-of_z at c.clamped_quotient.ensures.value in
    depth-from c.args.p.now c.args.x c.args.y c.depth_sum.result c.total.result c.clamped_quotient.result sum_is total_is value_is
