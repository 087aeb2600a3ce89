use Rattle.std.proofs.Common.{rules, arith, sym, ◌≡◌, ◌∙◌, ◌+ℤ◌, FitsSigned, w32, w64}
use Rattle.std.proofs.lemmas.Int.{fits_signed_from_abs, to_z-of_z}
use Rattle.gl_records.specs.Weights.{weight, weights}
use Rattle.interpolation.proofs.DepthSums.{total-is}
use Rattle.interpolation.proofs.depths.weight_total.Goals as goal

pub returns-clause-value : goal.returns-clause-value
returns-clause-value c =
    let p = c.args.prim.now in
    let x_fits : FitsSigned w32 c.args.x = c.ranges.x in
    let y_fits : FitsSigned w32 c.args.y = c.ranges.y in
    let is : c.weights.result ≡ weights p c.args.x c.args.y = simp to_z-of_z at c.weights.ensures.value in
    let small = c.requires.small in
    let u_fits : FitsSigned w64 (weight p 0 c.args.x c.args.y) = fits_signed_from_abs w64 _ (omega (arith, small.first)) in
    let v_fits : FitsSigned w64 (weight p 1 c.args.x c.args.y) = fits_signed_from_abs w64 _ (omega (arith, small.second)) in
    let w_fits : FitsSigned w64 (weight p 2 c.args.x c.args.y) = fits_signed_from_abs w64 _ (omega (arith, small.third)) in
    let total_fits : FitsSigned w64 c.total.result = search rules in
    let total_is : c.total.result ≡ weight p 0 c.args.x c.args.y +ℤ weight p 1 c.args.x c.args.y +ℤ weight p 2 c.args.x c.args.y =
    simp to_z-of_z at (rw is at c.total.ensures.value) in
    simp to_z-of_z (total_is ∙ sym (total-is p c.args.x c.args.y))
