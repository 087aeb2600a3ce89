use Rattle.std.proofs.Common.{rules, arith, ◌∙◌, ap, ◌≡◌, ◌≤◌, ◌<◌, ◌^◌, ℤ, pos, ◌+ℤ◌, ◌*ℤ◌, ◌<ℤ◌, unsigned_abs, false, FitsSigned, w64}
use Rattle.std.specs.Prelude.{int_lt}
use Rattle.std.specs.Int.{w128}
use Rattle.std.proofs.lemmas.Int.{ints, fits_signed_from_abs, to_z-of_z}
use Rattle.fx_arith.specs.Number.{floor_div}
use Rattle.plane_equations.proofs.Boxes.{within_steps}
use Rattle.plane_equations.proofs.Fractions.{fixed_value, narrow_corners, small_numbers}
use Rattle.plane_equations.proofs.fixed_quotients.fixed_quotient_by.Goals as goal

not_above : (divisor : ℤ) → pos 0 <ℤ divisor → int_lt (pos 2147483648) divisor ≡ false → unsigned_abs divisor ≤ 2 ^ 31
not_above divisor some test = grind (arith, ints)

above_zero : (divisor : ℤ) → pos 0 <ℤ divisor → 0 < unsigned_abs divisor
above_zero divisor some = omega (arith, ints)

pub returns-in_err-up-clause-too_wide : goal.returns-in_err-up-clause-too_wide
returns-in_err-up-clause-too_wide c =
    let p = c.args.plane.now in
    let d = unsigned_abs c.args.by.now.divisor in
    let steps = within_steps p.origin p.right p.up p.within in
    let up_fits : FitsSigned w64 p.up = fits_signed_from_abs w64 _ (omega (arith, steps.1)) in
    rw c.from_residual-in_err-up.ensures (λ has. c.in_err-up.ensures.too_wide (simp to_z-of_z (small_numbers p d has).2))

pub returns-in_err-scaled-clause-too_wide : goal.returns-in_err-scaled-clause-too_wide
returns-in_err-scaled-clause-too_wide c =
    let p = c.args.plane.now in
    let by = c.args.by.now in
    let d = unsigned_abs by.divisor in
    let steps = within_steps p.origin p.right p.up p.within in
    let origin_fits : FitsSigned w64 p.origin = fits_signed_from_abs w64 _ (omega (arith, p.within.first)) in
    let right_fits : FitsSigned w64 p.right = fits_signed_from_abs w64 _ (omega (arith, steps.0)) in
    let up_fits : FitsSigned w64 p.up = fits_signed_from_abs w64 _ (omega (arith, steps.1)) in
    let divisor_fits : FitsSigned w64 by.divisor = fits_signed_from_abs w64 _ (omega (arith, by.small)) in
    let first_fits : FitsSigned w128 c.in_ok-origin.origin = search rules in
    let along_fits : FitsSigned w128 c.in_ok-right.right = search rules in
    let above_fits : FitsSigned w128 c.in_ok-up.up = search rules in
    let rounded_fits : FitsSigned w128 c.rounded_up.result = search rules in
    let first : c.in_ok-origin.origin ≡ floor_div (pos 137438953472 *ℤ p.origin) d = simp to_z-of_z at c.in_ok-origin.ensures.value in
    let along : c.in_ok-right.right ≡ floor_div (pos 137438953472 *ℤ p.right) d = simp to_z-of_z at c.in_ok-right.ensures.value in
    let above : c.in_ok-up.up ≡ floor_div (pos 137438953472 *ℤ p.up) d = simp to_z-of_z at c.in_ok-up.ensures.value in
    let rounded : c.rounded_up.result ≡ c.in_ok-origin.origin +ℤ pos 33 = simp to_z-of_z at c.rounded_up.ensures.value in
    let origin = rounded ∙ ap (λ z. z +ℤ pos 33) first in
    rw c.from_residual-in_err-scaled.ensures (λ has. c.in_err-scaled.ensures.too_wide
    (simp to_z-of_z (rw (origin, along, above) (narrow_corners p d (above_zero by.divisor by.positive) has))))

pub returns-clause-quotient : goal.returns-clause-quotient
returns-clause-quotient c =
    let p = c.args.plane.now in
    let by = c.args.by.now in
    let d = unsigned_abs by.divisor in
    let steps = within_steps p.origin p.right p.up p.within in
    let origin_fits : FitsSigned w64 p.origin = fits_signed_from_abs w64 _ (omega (arith, p.within.first)) in
    let right_fits : FitsSigned w64 p.right = fits_signed_from_abs w64 _ (omega (arith, steps.0)) in
    let up_fits : FitsSigned w64 p.up = fits_signed_from_abs w64 _ (omega (arith, steps.1)) in
    let divisor_fits : FitsSigned w64 by.divisor = fits_signed_from_abs w64 _ (omega (arith, by.small)) in
    let first_fits : FitsSigned w128 c.in_ok-origin.origin = search rules in
    let along_fits : FitsSigned w128 c.in_ok-right.right = search rules in
    let above_fits : FitsSigned w128 c.in_ok-up.up = search rules in
    let rounded_fits : FitsSigned w128 c.rounded_up.result = search rules in
    let first : c.in_ok-origin.origin ≡ floor_div (pos 137438953472 *ℤ p.origin) d = simp to_z-of_z at c.in_ok-origin.ensures.value in
    let along : c.in_ok-right.right ≡ floor_div (pos 137438953472 *ℤ p.right) d = simp to_z-of_z at c.in_ok-right.ensures.value in
    let above : c.in_ok-up.up ≡ floor_div (pos 137438953472 *ℤ p.up) d = simp to_z-of_z at c.in_ok-up.ensures.value in
    let rounded : c.rounded_up.result ≡ c.in_ok-origin.origin +ℤ pos 33 = simp to_z-of_z at c.rounded_up.ensures.value in
    let scaled = c.in_ok-scaled.scaled in
    let is = c.in_ok-scaled.ensures.plane in
    let origin : scaled.origin ≡ c.rounded_up.result = simp to_z-of_z at is.origin in
    let right : scaled.right ≡ c.in_ok-right.right = simp to_z-of_z at is.right in
    let up : scaled.up ≡ c.in_ok-up.up = simp to_z-of_z at is.up in
    record {
      value = λ i j. fixed_value scaled.origin scaled.right scaled.up p.origin p.right p.up d i j (above_zero by.divisor by.positive)
          (not_above by.divisor by.positive (simp to_z-of_z at c.if-by.false)) (origin ∙ rounded ∙ ap (λ z. z +ℤ pos 33) first) (right ∙ along) (up ∙ above);
    }
