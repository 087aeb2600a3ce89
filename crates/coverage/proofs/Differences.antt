-- Equations between products and sums of whole numbers: each is read as a difference of two natural
-- numbers, and `omega` multiplies out what is left.
use Rattle.std.specs.Prelude.{ℕ, ℤ, pos, ◌+◌, ◌*◌, ◌+ℤ◌, ◌-ℤ◌, ◌*ℤ◌, ◌≡◌}
use Rattle.std.proofs.Common.{ap, arith}
use Rattle.std.proofs.lemmas.Int.{ints}
use borrow.Author.Differences.{up, down, sum_is_lem, product_is, same_in}

-- z is m less n
pub record IsDifference (z : ℤ) (m n : ℕ) : Type 0 where
  pub is : up z + n ≡ down z + m

pub var : (z : ℤ) → IsDifference z (up z) (down z)
var z = record { is = omega arith }

pub number : (n : ℕ) → IsDifference (pos n) n 0
number n = record { is = omega arith }

pub plus : {a b : ℤ} {m n p q : ℕ} → IsDifference a m n → IsDifference b p q → IsDifference (a +ℤ b) (m + p) (n + q)
plus {a} {b} x y = record { is = omega (arith, sum_is_lem a b) }

pub minus : {a b : ℤ} {m n p q : ℕ} → IsDifference a m n → IsDifference b p q → IsDifference (a -ℤ b) (m + q) (n + p)
minus {a} {b} x y = record { is = omega (arith, ints) }

pub times : {a b : ℤ} {m n p q : ℕ} → IsDifference a m n → IsDifference b p q → IsDifference (a *ℤ b) (m * p + n * q) (m * q + n * p)
times {a} {b} {m} {n} {p} {q} x y =
    let one = ap (λ (k : ℕ). k * up b) x.is in
    let two = ap (λ (k : ℕ). k * down b) x.is in
    let three = ap (λ (k : ℕ). m * k) y.is in
    let four = ap (λ (k : ℕ). n * k) y.is in
    record { is = omega (arith, product_is a b) }

pub same : {a b : ℤ} {m n p q : ℕ} → IsDifference a m n → IsDifference b p q → m + q ≡ p + n → a ≡ b
same {a} {b} x y e = same_in a b (omega arith)
