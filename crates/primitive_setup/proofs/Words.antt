-- Arithmetic on numbers of 64 bits that are far from the ends.
use Rattle.std.proofs.Common.{◌≡◌, ◌≤◌, ◌<◌, ◌^◌, ap, ◌∙◌, arith}
use Rattle.std.specs.Prelude.{ℤ, pos, negsuc, ◌≤ℤ◌, ◌+ℤ◌, ◌-ℤ◌, ◌*ℤ◌, unsigned_abs}
use Rattle.std.specs.Int.RustNames.{FitsSigned}
use Rattle.std.proofs.lemmas.Int.{ints}
use Rattle.fx_arith.proofs.Products.{unsigned_abs-*ℤ-≤}
use borrow.Author.Differences.{mag_is}
use lib.Signed.{mag}
use mir.Syntax.{w32, w64}
use mir.Val.{to_z, of_z}

-- `a + b` fits
pub sum_fits : (a b : ℤ) → unsigned_abs a ≤ 2 ^ 48 → unsigned_abs b ≤ 2 ^ 48 → FitsSigned w64 (to_z w64 (of_z w64 a) +ℤ to_z w64 (of_z w64 b))
sum_fits a b p q = omega (arith, ints)

-- `a + b` is the sum
pub sum_is : (a b x y : ℤ) → a ≡ x → b ≡ y → unsigned_abs a ≤ 2 ^ 48 → unsigned_abs b ≤ 2 ^ 48 → to_z w64 (of_z w64 (to_z w64 (of_z w64 a) +ℤ to_z w64 (of_z w64 b))) ≡ x +ℤ y
sum_is a b x y e f p q =
    let whole : to_z w64 (of_z w64 (to_z w64 (of_z w64 a) +ℤ to_z w64 (of_z w64 b))) ≡ a +ℤ b = omega (arith, ints) in
    whole ∙ ap (λ n. n +ℤ b) e ∙ ap (λ n. x +ℤ n) f

product_bound : (a b : ℤ) → unsigned_abs a ≤ 2 ^ 24 → unsigned_abs b ≤ 2 ^ 18 → unsigned_abs (a *ℤ b) ≤ 2 ^ 42
product_bound a b p q = unsigned_abs-*ℤ-≤ a b (2 ^ 24) (2 ^ 18) p q

-- the factors, read from their words
factors : (a b : ℤ) → unsigned_abs a ≤ 2 ^ 24 → unsigned_abs b ≤ 2 ^ 18
    → to_z w64 (of_z w64 a) *ℤ to_z w64 (of_z w64 b) ≡ a *ℤ b
factors a b p q =
    let first : to_z w64 (of_z w64 a) ≡ a = omega (arith, ints) in
    let second : to_z w64 (of_z w64 b) ≡ b = omega (arith, ints) in
    ap (λ n. n *ℤ to_z w64 (of_z w64 b)) first ∙ ap (λ n. a *ℤ n) second

-- `a * b` fits
pub product_fits : (a b : ℤ) → unsigned_abs a ≤ 2 ^ 24 → unsigned_abs b ≤ 2 ^ 18
    → FitsSigned w64 (to_z w64 (of_z w64 a) *ℤ to_z w64 (of_z w64 b))
product_fits a b p q =
    let bound : unsigned_abs (a *ℤ b) ≤ 2 ^ 42 = product_bound a b p q in
    rw (factors a b p q) (omega (arith, ints, bound))

-- `a * b` is the product
pub product_is : (a b : ℤ) → unsigned_abs a ≤ 2 ^ 24 → unsigned_abs b ≤ 2 ^ 18
    → to_z w64 (of_z w64 (to_z w64 (of_z w64 a) *ℤ to_z w64 (of_z w64 b))) ≡ a *ℤ b
product_is a b p q =
    let bound : unsigned_abs (a *ℤ b) ≤ 2 ^ 42 = product_bound a b p q in
    let read : to_z w64 (of_z w64 (a *ℤ b)) ≡ a *ℤ b = omega (arith, ints, bound) in
    ap (λ n. to_z w64 (of_z w64 n)) (factors a b p q) ∙ read

-- `a * d - c * b` fits
pub cross_fits : (a b c d : ℤ) → unsigned_abs a ≤ 2 ^ 24 → unsigned_abs b ≤ 2 ^ 18 → unsigned_abs c ≤ 2 ^ 24 → unsigned_abs d ≤ 2 ^ 18
    → FitsSigned w64 (to_z w64 (of_z w64 (to_z w64 (of_z w64 a) *ℤ to_z w64 (of_z w64 d))) -ℤ to_z w64 (of_z w64 (to_z w64 (of_z w64 c) *ℤ to_z w64 (of_z w64 b))))
cross_fits a b c d p q r s =
    let first = product_bound a d p s in
    let second = product_bound c b r q in
    rw (product_is a d p s, product_is c b r q) (omega (arith, ints, first, second))

-- `a * d - c * b` is the cross product
pub cross_is : (a b c d : ℤ) → unsigned_abs a ≤ 2 ^ 24 → unsigned_abs b ≤ 2 ^ 18 → unsigned_abs c ≤ 2 ^ 24 → unsigned_abs d ≤ 2 ^ 18
    → to_z w64 (of_z w64 (to_z w64 (of_z w64 (to_z w64 (of_z w64 a) *ℤ to_z w64 (of_z w64 d))) -ℤ to_z w64 (of_z w64 (to_z w64 (of_z w64 c) *ℤ to_z w64 (of_z w64 b)))))
    ≡ a *ℤ d -ℤ c *ℤ b
cross_is a b c d p q r s =
    let first = product_bound a d p s in
    let second = product_bound c b r q in
    let read : to_z w64 (of_z w64 (a *ℤ d -ℤ c *ℤ b)) ≡ a *ℤ d -ℤ c *ℤ b = omega (arith, ints, first, second) in
    rw (product_is a d p s, product_is c b r q) read

pub cross_bound : (a b c d : ℤ) → unsigned_abs a ≤ 2 ^ 24 → unsigned_abs b ≤ 2 ^ 18 → unsigned_abs c ≤ 2 ^ 24 → unsigned_abs d ≤ 2 ^ 18
    → unsigned_abs (a *ℤ d -ℤ c *ℤ b) ≤ 2 ^ 43
cross_bound a b c d p q r s = omega (arith, ints, product_bound a d p s, product_bound c b r q)

-- a cross product of equal vectors
pub cross_same : (r a b c d x y z w : ℤ) → r ≡ a *ℤ d -ℤ c *ℤ b → a ≡ x → b ≡ y → c ≡ z → d ≡ w → r ≡ x *ℤ w -ℤ z *ℤ y
cross_same r a b c d x y z w is p q s t =
    is ∙ ap (λ n. n *ℤ d -ℤ c *ℤ b) p ∙ ap (λ n. x *ℤ n -ℤ c *ℤ b) t ∙ ap (λ n. x *ℤ w -ℤ n *ℤ b) s ∙ ap (λ n. x *ℤ w -ℤ z *ℤ n) q

-- ---- 32 bits
-- a place in the window, read from its word
pub place_is : (a : ℤ) → negsuc 65535 ≤ℤ a → a ≤ℤ pos 98304 → to_z w32 (of_z w32 a) ≡ a
place_is a from to = omega (arith, ints)

-- any number of 32 bits, read from its word
pub word_is : (a : ℤ) → mag a < 2 ^ 31 → to_z w32 (of_z w32 a) ≡ a
word_is a fits = omega (arith, ints, mag_is a)
