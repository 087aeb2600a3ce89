use Rattle.std.proofs.Common.{rules, arith, ◌≡◌, FitsSigned, w32, w64}
use Rattle.std.specs.Int.{w128}
use Rattle.std.proofs.lemmas.Int.{fits_signed_from_abs, to_z-of_z}
use Rattle.coverage.proofs.DepthLemmas.{z-fits}
use Rattle.gl_records.specs.Coverage.{corner}
use Rattle.gl_records.specs.Weights.{weight, weights}
use Rattle.interpolation.proofs.DepthSums.{depth_sum-from}
use Rattle.interpolation.proofs.depths.depth_sum.Goals as goal

pub returns-clause-value : goal.returns-clause-value
returns-clause-value c =
    let p = c.args.prim.now in
    let x_fits : FitsSigned w32 c.args.x = c.ranges.x in
    let y_fits : FitsSigned w32 c.args.y = c.ranges.y in
    let is : c.weights.result ≡ weights p c.args.x c.args.y = simp to_z-of_z at c.weights.ensures.value in
    let small = c.requires.small in
    let u_fits : FitsSigned w64 (weight p 0 c.args.x c.args.y) = fits_signed_from_abs w64 _ (omega (arith, small.first)) in
    let v_fits : FitsSigned w64 (weight p 1 c.args.x c.args.y) = fits_signed_from_abs w64 _ (omega (arith, small.second)) in
    let w_fits : FitsSigned w64 (weight p 2 c.args.x c.args.y) = fits_signed_from_abs w64 _ (omega (arith, small.third)) in
    let first_fits : FitsSigned w32 (corner p 0).z = z-fits c.requires.in_range.first in
    let second_fits : FitsSigned w32 (corner p 1).z = z-fits c.requires.in_range.second in
    let third_fits : FitsSigned w32 (corner p 2).z = z-fits c.requires.in_range.third in
    let part_fits : FitsSigned w128 c.part.result = search rules in
    let part_2_fits : FitsSigned w128 c.part-2.result = search rules in
    let part_3_fits : FitsSigned w128 c.part-3.result = search rules in
    let sum_fits : FitsSigned w128 c.added.result = search rules in
    simp to_z-of_z
    (depth_sum-from p c.args.x c.args.y c.added.result c.part.result c.part-2.result c.part-3.result
    (simp to_z-of_z at c.added.ensures.value)
    (simp to_z-of_z at (rw is at c.part.ensures.value))
    (simp to_z-of_z at (rw is at c.part-2.ensures.value))
    (simp to_z-of_z at (rw is at c.part-3.ensures.value)))
