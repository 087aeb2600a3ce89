use Rattle.std.proofs.Common.{arith, ◌≡◌, FitsSigned, w32, w64}
use Rattle.std.proofs.lemmas.Int.{fits_signed_from_abs, to_z-of_z}
use Rattle.gl_records.specs.Weights.{weight, weights}
use Rattle.interpolation.proofs.slopes.scaled_shares_at.Goals as goal

pub returns-clause-shares : goal.returns-clause-shares
returns-clause-shares c =
    let p = c.args.prim.now in
    let x_fits : FitsSigned w32 c.args.x = c.ranges.x in
    let y_fits : FitsSigned w32 c.args.y = c.ranges.y in
    let is : c.weights.result ≡ weights p c.args.x c.args.y = simp to_z-of_z at c.weights.ensures.value in
    let small = c.requires.small in
    let u_fits : FitsSigned w64 (weight p 0 c.args.x c.args.y) = fits_signed_from_abs w64 _ (omega (arith, small.first)) in
    let v_fits : FitsSigned w64 (weight p 1 c.args.x c.args.y) = fits_signed_from_abs w64 _ (omega (arith, small.second)) in
    let w_fits : FitsSigned w64 (weight p 2 c.args.x c.args.y) = fits_signed_from_abs w64 _ (omega (arith, small.third)) in
    record {
      first = simp to_z-of_z at (rw (is, c.factor.ensures) at c.weighted.ensures.first);
      second = simp to_z-of_z at (rw (is, c.factor-2.ensures) at c.weighted.ensures.second);
      third = simp to_z-of_z at (rw (is, c.factor-3.ensures) at c.weighted.ensures.third);
    }
