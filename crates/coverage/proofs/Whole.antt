-- Bounds of whole numbers.
use Rattle.std.specs.Prelude.{ℕ, ℤ, pos, negsuc, ◌-ℤ◌, ◌*ℤ◌, ◌≤ℤ◌, ◌*◌, ◌^◌, ◌≤◌, unsigned_abs}
use Rattle.std.proofs.Common.{arith, FitsSigned, w64}
use Rattle.std.proofs.lemmas.Int.{ints, unsigned_abs-mul}
use Rattle.std.proofs.Math.Nat.{mul-le-mul, mul-le-mul_left}

-- a bound of a product
pub unsigned_abs-product : (a b : ℤ) (m n : ℕ) → unsigned_abs a ≤ m → unsigned_abs b ≤ n → unsigned_abs (a *ℤ b) ≤ m * n
unsigned_abs-product a b m n p q = rw unsigned_abs-mul (mul-le-mul p q)

-- a bound of a difference
pub unsigned_abs-difference : (a b : ℤ) (m : ℕ) → unsigned_abs a ≤ m → unsigned_abs b ≤ m → unsigned_abs (a -ℤ b) ≤ 2 * m
unsigned_abs-difference a b m p q = omega (arith, ints)

pub fits_from_abs : (a b : ℤ) → unsigned_abs a ≤ 2 ^ 55 → unsigned_abs b ≤ 2 ^ 55 → FitsSigned w64 (a -ℤ b)
fits_from_abs a b p q = omega (arith, ints)

-- a product of a factor that is not below 0 lies within the bound of the other, taken as often
pub product-within : (a b : ℤ) (n : ℕ) → pos 0 ≤ℤ a → unsigned_abs b ≤ n
    → ((pos 0 -ℤ (pos n *ℤ a)) ≤ℤ (a *ℤ b)) × ((a *ℤ b) ≤ℤ (pos n *ℤ a))
product-within (pos a) (pos b) n p q =
    let most = mul-le-mul_left a q in
    (omega (arith, ints), omega (arith, ints))
product-within (pos a) (negsuc b) n p q =
    let most = mul-le-mul_left a q in
    (omega (arith, ints), omega (arith, ints))
product-within (negsuc a) b n p q = absurd (omega (arith, ints))

pub product-fits : (a b : ℤ) → pos 0 ≤ℤ a → a ≤ℤ pos (2 ^ 36) → unsigned_abs b ≤ 2 ^ 26 → FitsSigned w64 (a *ℤ b)
product-fits a b p q r =
    let within = product-within a b (2 ^ 26) p r in
    omega (arith, ints)
