use Rattle.std.proofs.Common.{rules, arith, sym, ◌≡◌, ◌≤◌, ◌*◌, ◌^◌, ◌<◌, ℤ, pos, ◌+ℤ◌, ◌-ℤ◌, ◌*ℤ◌, ◌≤ℤ◌, ◌<ℤ◌, unsigned_abs, true, false, FitsSigned, w64}
use Rattle.std.specs.Prelude.{int_le, int_lt}
use Rattle.std.proofs.lemmas.Int.{ints, fits_signed_from_abs, to_z-of_z}
use Rattle.plane_equations.proofs.Guesses.{rounded_higher, rounded_lower, rounded_right}
use Rattle.plane_equations.proofs.reciprocals.corrected.Goals as goal

-- a guess times the divisor isn't far from z
product : (z divisor near : ℤ) → unsigned_abs z ≤ 2 ^ 61 → pos 0 <ℤ divisor → unsigned_abs divisor ≤ 2 ^ 61 → near ≤ℤ (z +ℤ divisor)
    → z <ℤ (near +ℤ divisor +ℤ divisor) → unsigned_abs near < 3 * 2 ^ 61
product z divisor near p q r s t = omega (arith, ints)

-- what tests say
below : (a b : ℤ) → int_lt a b ≡ true → a <ℤ b
below a b test = grind (arith, ints)

not_below : (a b : ℤ) → int_lt a b ≡ false → b ≤ℤ a
not_below a b test = grind (arith, ints)

at_most : (a b : ℤ) → int_le a b ≡ true → a ≤ℤ b
at_most a b test = grind (arith, ints)

not_at_most : (a b : ℤ) → int_le a b ≡ false → b <ℤ a
not_at_most a b test = grind (arith, ints)

pub rest_of-rest-requires-clause-z : goal.rest_of-rest-requires-clause-z
rest_of-rest-requires-clause-z c =
    let z_fits : FitsSigned w64 c.args.z = c.ranges.z in
    simp to_z-of_z c.requires.z

pub rest_of-rest-requires-clause-product : goal.rest_of-rest-requires-clause-product
rest_of-rest-requires-clause-product c =
    let guess_fits : FitsSigned w64 c.args.guess = c.ranges.guess in
    let divisor_fits : FitsSigned w64 c.args.divisor = c.ranges.divisor in
    simp to_z-of_z (product c.args.z c.args.divisor (c.args.guess *ℤ c.args.divisor) c.requires.z c.requires.positive c.requires.small
    c.requires.not_far_above c.requires.not_far_below)

pub returns-then-rest-lt0 : goal.returns-then-rest-lt0
returns-then-rest-lt0 c =
    let z_fits : FitsSigned w64 c.args.z = c.ranges.z in
    let guess_fits : FitsSigned w64 c.args.guess = c.ranges.guess in
    let divisor_fits : FitsSigned w64 c.args.divisor = c.ranges.divisor in
    let next_fits : FitsSigned w64 (c.args.guess -ℤ pos 1) = fits_signed_from_abs w64 _ (omega (arith, ints, c.requires.guess)) in
    let rest_fits : FitsSigned w64 c.rest_of-rest.result = search rules in
    let rest : c.rest_of-rest.result ≡ c.args.z -ℤ c.args.guess *ℤ c.args.divisor = simp to_z-of_z at c.rest_of-rest.ensures in
    let low : c.rest_of-rest.result <ℤ pos 0 = below c.rest_of-rest.result (pos 0) (simp to_z-of_z at c.if-rest-lt0.true) in
    simp to_z-of_z (sym (rounded_lower c.args.z c.args.guess c.args.divisor c.rest_of-rest.result rest c.requires.positive c.requires.not_far_above low))

pub returns-then-divisor-rest : goal.returns-then-divisor-rest
returns-then-divisor-rest c =
    let z_fits : FitsSigned w64 c.args.z = c.ranges.z in
    let guess_fits : FitsSigned w64 c.args.guess = c.ranges.guess in
    let divisor_fits : FitsSigned w64 c.args.divisor = c.ranges.divisor in
    let next_fits : FitsSigned w64 (c.args.guess +ℤ pos 1) = fits_signed_from_abs w64 _ (omega (arith, ints, c.requires.guess)) in
    let rest_fits : FitsSigned w64 c.rest_of-rest.result = search rules in
    let rest : c.rest_of-rest.result ≡ c.args.z -ℤ c.args.guess *ℤ c.args.divisor = simp to_z-of_z at c.rest_of-rest.ensures in
    let high : c.args.divisor ≤ℤ c.rest_of-rest.result = at_most c.args.divisor c.rest_of-rest.result (simp to_z-of_z at c.if-divisor-rest.true) in
    simp to_z-of_z (sym (rounded_higher c.args.z c.args.guess c.args.divisor c.rest_of-rest.result rest c.requires.positive c.requires.not_far_below high))

pub returns-else-divisor-rest : goal.returns-else-divisor-rest
returns-else-divisor-rest c =
    let z_fits : FitsSigned w64 c.args.z = c.ranges.z in
    let guess_fits : FitsSigned w64 c.args.guess = c.ranges.guess in
    let divisor_fits : FitsSigned w64 c.args.divisor = c.ranges.divisor in
    let rest_fits : FitsSigned w64 c.rest_of-rest.result = search rules in
    let rest : c.rest_of-rest.result ≡ c.args.z -ℤ c.args.guess *ℤ c.args.divisor = simp to_z-of_z at c.rest_of-rest.ensures in
    let low : pos 0 ≤ℤ c.rest_of-rest.result = not_below c.rest_of-rest.result (pos 0) (simp to_z-of_z at c.if-rest-lt0.false) in
    let high : c.rest_of-rest.result <ℤ c.args.divisor = not_at_most c.args.divisor c.rest_of-rest.result (simp to_z-of_z at c.if-divisor-rest.false) in
    simp to_z-of_z (sym (rounded_right c.args.z c.args.guess c.args.divisor c.rest_of-rest.result rest c.requires.positive low high))
