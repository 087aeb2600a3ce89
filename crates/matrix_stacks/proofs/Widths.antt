-- Products that fit 128 bits.
use Rattle.std.proofs.Common.{◌≡◌, ◌≤◌, ◌^◌, arith, lit<}
use Rattle.std.specs.Prelude.{ℤ, ◌*ℤ◌, unsigned_abs, FitsSigned}
use Rattle.std.proofs.lemmas.Int.{to_z-of_z, fits_signed_from_abs, fits_signed_mul}
use Rattle.fx_arith.proofs.Products.{unsigned_abs-*ℤ-≤}
use mir.Syntax.{w128}
use mir.Val.{to_z, of_z}

-- a cofactor times a GLfixed, as words of 128 bits multiply them
pub product_128 : (cofactor a : ℤ) → unsigned_abs cofactor ≤ 2 ^ 63 → unsigned_abs a ≤ 2 ^ 31
    → to_z w128 (of_z w128 (to_z w128 (of_z w128 cofactor) *ℤ to_z w128 (of_z w128 a))) ≡ cofactor *ℤ a
product_128 cofactor a p q =
    let first : FitsSigned w128 cofactor = fits_signed_from_abs w128 cofactor (omega arith) in
    let second : FitsSigned w128 a = fits_signed_from_abs w128 a (omega arith) in
    let whole : FitsSigned w128 (cofactor *ℤ a) = fits_signed_mul w128 cofactor a (2 ^ 63) (2 ^ 31) p q (lit< tt) in
    simp to_z-of_z

-- and how large it is
pub product_128-bound : (cofactor a : ℤ) → unsigned_abs cofactor ≤ 2 ^ 63 → unsigned_abs a ≤ 2 ^ 31
    → unsigned_abs (to_z w128 (of_z w128 (to_z w128 (of_z w128 cofactor) *ℤ to_z w128 (of_z w128 a)))) ≤ 2 ^ 94
product_128-bound cofactor a p q = rw (product_128 cofactor a p q) (unsigned_abs-*ℤ-≤ cofactor a (2 ^ 63) (2 ^ 31) p q)
