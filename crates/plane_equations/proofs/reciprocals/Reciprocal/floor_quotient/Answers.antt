use Rattle.std.proofs.Common.{rules, arith, ap, sym, to_z, of_z, ◌≡◌, ◌∙◌, ◌^◌, pos, ◌+ℤ◌, ◌*ℤ◌, unsigned_abs, FitsSigned, w64}
use Rattle.std.specs.Int.{w128}
use Rattle.std.proofs.lemmas.Int.{fits_signed_from_abs, ints, to_z-of_z}
use Rattle.fx_arith.specs.Number.{floor_div}
use Rattle.plane_equations.proofs.Guesses.{floor_div-bound, guess_is_near, quotient_between}
use Rattle.plane_equations.proofs.reciprocals.Reciprocal.floor_quotient.Goals as goal

pub corrected-requires-clause-not_far_above : goal.corrected-requires-clause-not_far_above
corrected-requires-clause-not_far_above c =
    let by = c.args.self.now in
    let z_fits : FitsSigned w64 c.args.z = c.ranges.z in
    let doubled_fits : FitsSigned w64 (pos 2 *ℤ c.args.z) = fits_signed_from_abs w64 _ (omega (arith, ints, c.requires)) in
    let inverse_fits : FitsSigned w64 by.inverse = search rules in
    let product_fits : FitsSigned w128 c.product-product.result = search rules in
    let guess_fits : FitsSigned w64 c.high_word-guess.result = search rules in
    let divisor_fits : FitsSigned w64 by.divisor = fits_signed_from_abs w64 _ (omega (arith, by.small)) in
    let product : c.product-product.result ≡ (pos 2 *ℤ c.args.z) *ℤ by.inverse = simp to_z-of_z at c.product-product.ensures.value in
    let guess : c.high_word-guess.result ≡ floor_div c.product-product.result (2 ^ 64) = simp to_z-of_z at c.high_word-guess.ensures.value in
    simp to_z-of_z (guess_is_near c.args.z c.high_word-guess.result c.product-product.result by.divisor by.inverse by.positive by.from c.requires by.below by.next_above product guess).0

pub corrected-requires-clause-not_far_below : goal.corrected-requires-clause-not_far_below
corrected-requires-clause-not_far_below c =
    let by = c.args.self.now in
    let z_fits : FitsSigned w64 c.args.z = c.ranges.z in
    let doubled_fits : FitsSigned w64 (pos 2 *ℤ c.args.z) = fits_signed_from_abs w64 _ (omega (arith, ints, c.requires)) in
    let inverse_fits : FitsSigned w64 by.inverse = search rules in
    let product_fits : FitsSigned w128 c.product-product.result = search rules in
    let guess_fits : FitsSigned w64 c.high_word-guess.result = search rules in
    let divisor_fits : FitsSigned w64 by.divisor = fits_signed_from_abs w64 _ (omega (arith, by.small)) in
    let product : c.product-product.result ≡ (pos 2 *ℤ c.args.z) *ℤ by.inverse = simp to_z-of_z at c.product-product.ensures.value in
    let guess : c.high_word-guess.result ≡ floor_div c.product-product.result (2 ^ 64) = simp to_z-of_z at c.high_word-guess.ensures.value in
    simp to_z-of_z (guess_is_near c.args.z c.high_word-guess.result c.product-product.result by.divisor by.inverse by.positive by.from c.requires by.below by.next_above product guess).1

pub returns-then-high_word-guess-clause-value : goal.returns-then-high_word-guess-clause-value
returns-then-high_word-guess-clause-value c =
    let by = c.args.self.now in
    let z_fits : FitsSigned w64 c.args.z = c.ranges.z in
    let doubled_fits : FitsSigned w64 (pos 2 *ℤ c.args.z) = fits_signed_from_abs w64 _ (omega (arith, ints, c.requires)) in
    let inverse_fits : FitsSigned w64 by.inverse = search rules in
    let product_fits : FitsSigned w128 c.product-product.result = search rules in
    let next_fits : FitsSigned w128 c.next_product.result = search rules in
    let guess_fits : FitsSigned w64 c.high_word-guess.result = search rules in
    let second_fits : FitsSigned w64 c.high_word.result = search rules in
    let product : c.product-product.result ≡ (pos 2 *ℤ c.args.z) *ℤ by.inverse = simp to_z-of_z at c.product-product.ensures.value in
    let next : c.next_product.result ≡ c.product-product.result +ℤ pos 2 *ℤ c.args.z = simp to_z-of_z at c.next_product.ensures.value in
    let guess : c.high_word-guess.result ≡ floor_div c.product-product.result (2 ^ 64) = simp to_z-of_z at c.high_word-guess.ensures.value in
    let second : c.high_word.result ≡ floor_div c.next_product.result (2 ^ 64) = simp to_z-of_z at c.high_word.ensures.value in
    let words : to_z w64 (of_z w64 c.high_word.result) ≡ to_z w64 (of_z w64 c.high_word-guess.result) = ap (to_z w64) c.if-high_word-guess.true in
    let same : c.high_word.result ≡ c.high_word-guess.result = simp to_z-of_z at words in
    simp to_z-of_z (quotient_between c.args.z c.high_word-guess.result c.product-product.result c.next_product.result by.divisor by.inverse by.positive by.from by.below by.next_above
    product next guess (sym same ∙ second))

pub returns-then-high_word-guess-clause-bound : goal.returns-then-high_word-guess-clause-bound
returns-then-high_word-guess-clause-bound c =
    rw (returns-then-high_word-guess-clause-value c) (floor_div-bound c.args.z (unsigned_abs c.args.self.now.divisor))

pub returns-else-high_word-guess-clause-bound : goal.returns-else-high_word-guess-clause-bound
returns-else-high_word-guess-clause-bound c =
    let by = c.args.self.now in
    let z_fits : FitsSigned w64 c.args.z = c.ranges.z in
    let divisor_fits : FitsSigned w64 by.divisor = fits_signed_from_abs w64 _ (omega (arith, by.small)) in
    let is : c.corrected.result ≡ floor_div c.args.z (unsigned_abs by.divisor) = simp to_z-of_z at c.corrected.ensures in
    let result_fits : FitsSigned w64 c.corrected.result = search rules in
    simp to_z-of_z (rw is (floor_div-bound c.args.z (unsigned_abs by.divisor)))
