use Rattle.std.proofs.Common.{rules, arith, ◌≡◌, pos, ◌+ℤ◌, ◌-ℤ◌, ◌*ℤ◌, unsigned_abs, FitsSigned, w64}
use Rattle.std.specs.Int.{w128}
use Rattle.std.proofs.lemmas.Int.{ints, fits_signed_from_abs, to_z-of_z}
use Rattle.fx_arith.specs.Number.{floor_div}
use Rattle.plane_equations.proofs.Fractions.{digits}
use Rattle.plane_equations.proofs.fixed_quotients.two_digits.Goals as goal

pub returns-clause-value : goal.returns-clause-value
returns-clause-value c =
    let by = c.args.by.now in
    let d = unsigned_abs by.divisor in
    let z_fits : FitsSigned w64 c.args.z = c.ranges.z in
    let divisor_fits : FitsSigned w64 by.divisor = fits_signed_from_abs w64 _ (omega (arith, by.small)) in
    let first_fits : FitsSigned w64 (pos 128 *ℤ c.args.z) = fits_signed_from_abs w64 _ (omega (arith, ints, c.requires.z)) in
    let high_fits : FitsSigned w64 c.floor_quotient-high.result = search rules in
    let low_fits : FitsSigned w64 c.floor_quotient.result = search rules in
    let rest_fits : FitsSigned w64 c.remainder-rest.result = search rules in
    let more_fits : FitsSigned w64 (pos 1073741824 *ℤ c.remainder-rest.result) = search rules in
    let joined_fits : FitsSigned w128 c.joined.result = search rules in
    let high : c.floor_quotient-high.result ≡ floor_div (pos 128 *ℤ c.args.z) d = simp to_z-of_z at c.floor_quotient-high.ensures.value in
    let rest : c.remainder-rest.result ≡ pos 128 *ℤ c.args.z -ℤ c.floor_quotient-high.result *ℤ by.divisor = simp to_z-of_z at c.remainder-rest.ensures.value in
    let low : c.floor_quotient.result ≡ floor_div (pos 1073741824 *ℤ c.remainder-rest.result) d = simp to_z-of_z at c.floor_quotient.ensures.value in
    let joined : c.joined.result ≡ pos 1073741824 *ℤ c.floor_quotient-high.result +ℤ c.floor_quotient.result = simp to_z-of_z at c.joined.ensures.value in
    simp to_z-of_z (rw joined (digits c.args.z c.floor_quotient-high.result c.floor_quotient.result c.remainder-rest.result by.divisor by.positive high rest low))
