use Rattle.std.proofs.Common.{rules, arith, ◌≡◌, ◌≤◌, ◌<◌, ◌*◌, ◌^◌, ℤ, pos, ◌+ℤ◌, ◌-ℤ◌, ◌*ℤ◌, ◌≤ℤ◌, ◌<ℤ◌, unsigned_abs, FitsSigned, w64}
use Rattle.std.proofs.lemmas.Int.{ints, to_z-of_z}
use Rattle.plane_equations.proofs.Guesses.{remains}
use Rattle.plane_equations.proofs.fixed_quotients.remainder.Goals as goal

product : (z divisor near : ℤ) → unsigned_abs z ≤ 2 ^ 61 → unsigned_abs divisor ≤ 2 ^ 31 → near ≤ℤ z → z <ℤ (near +ℤ divisor) → unsigned_abs near < 3 * 2 ^ 61
product z divisor near p q r s = omega (arith, ints)

pub rest_of-requires-clause-product : goal.rest_of-requires-clause-product
rest_of-requires-clause-product c =
    let quotient_fits : FitsSigned w64 c.args.quotient = c.ranges.quotient in
    let divisor_fits : FitsSigned w64 c.args.divisor = c.ranges.divisor in
    let left = remains c.args.z c.args.quotient c.args.divisor c.requires.positive c.requires.quotient in
    simp to_z-of_z (product c.args.z c.args.divisor (c.args.quotient *ℤ c.args.divisor) c.requires.z c.requires.divisor left.0 left.1)

pub returns-clause-from : goal.returns-clause-from
returns-clause-from c =
    let z_fits : FitsSigned w64 c.args.z = c.ranges.z in
    let quotient_fits : FitsSigned w64 c.args.quotient = c.ranges.quotient in
    let divisor_fits : FitsSigned w64 c.args.divisor = c.ranges.divisor in
    let result_fits : FitsSigned w64 c.rest_of.result = search rules in
    let is : c.rest_of.result ≡ c.args.z -ℤ c.args.quotient *ℤ c.args.divisor = simp to_z-of_z at c.rest_of.ensures in
    let left = remains c.args.z c.args.quotient c.args.divisor c.requires.positive c.requires.quotient in
    let from : pos 0 ≤ℤ c.rest_of.result = rw is (omega (arith, ints, left.0)) in
    simp to_z-of_z from

pub returns-clause-to : goal.returns-clause-to
returns-clause-to c =
    let z_fits : FitsSigned w64 c.args.z = c.ranges.z in
    let quotient_fits : FitsSigned w64 c.args.quotient = c.ranges.quotient in
    let divisor_fits : FitsSigned w64 c.args.divisor = c.ranges.divisor in
    let result_fits : FitsSigned w64 c.rest_of.result = search rules in
    let is : c.rest_of.result ≡ c.args.z -ℤ c.args.quotient *ℤ c.args.divisor = simp to_z-of_z at c.rest_of.ensures in
    let left = remains c.args.z c.args.quotient c.args.divisor c.requires.positive c.requires.quotient in
    let to : c.rest_of.result <ℤ c.args.divisor = rw is (omega (arith, ints, left.1)) in
    simp to_z-of_z to
