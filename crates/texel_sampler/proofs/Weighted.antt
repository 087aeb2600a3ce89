-- Four numbers with their weights.
use Rattle.std.proofs.Common.{◌≡◌, ℕ, ◌<◌, ◌≤◌, ◌+◌, ◌-◌, ◌*◌, ◌/◌, ap, arith, sym}
use Rattle.std.proofs.lemmas.Nat.{mul-le}
use Rattle.std.proofs.Math.Nat.{add-mul, mul-add, mul_assoc, mul_comm}

-- two numbers that count 256 together make at most 256 times the greater
pub two-bound : (a x y most : ℕ) → a < 256 → x ≤ most → y ≤ most → (256 - a) * x + a * y ≤ 256 * most
two-bound a x y most less px py =
    let c = 256 - a in
    let first = mul-le c x c most (omega arith) px in
    let second = mul-le a y a most (omega arith) py in
    let whole = add-mul a c most in
    let all : a + c ≡ 256 = omega arith in
    let is : (a + c) * most ≡ 256 * most = ap (λ n. n * most) all in
    omega (arith, first, second, whole, is)

-- a product of a weight and a sum by weights
by_parts : (d c a x y : ℕ) → d * (c * x + a * y) ≡ c * d * x + a * d * y
by_parts d c a x y =
    let first : d * (c * x) ≡ c * d * x = rw (mul_comm c d) (sym (mul_assoc d c x)) in
    let second : d * (a * y) ≡ a * d * y = rw (mul_comm a d) (sym (mul_assoc d a y)) in
    let whole = mul-add d (c * x) (a * y) in
    omega (arith, first, second, whole)

-- first along the rows and then across them, or all at once
pub at-once : (a b x y z v : ℕ)
    → ((256 - b) * ((256 - a) * x + a * y) + b * ((256 - a) * z + a * v) + 32768) / 65536
    ≡ ((256 - a) * (256 - b) * x + a * (256 - b) * y + (256 - a) * b * z + a * b * v + 32768) / 65536
at-once a b x y z v =
    let lower = by_parts (256 - b) (256 - a) a x y in
    let upper = by_parts b (256 - a) a z v in
    let sums : (256 - b) * ((256 - a) * x + a * y) + b * ((256 - a) * z + a * v) + 32768
    ≡ (256 - a) * (256 - b) * x + a * (256 - b) * y + (256 - a) * b * z + a * b * v + 32768 = omega (arith, lower, upper) in
    ap (λ n. n / 65536) sums
