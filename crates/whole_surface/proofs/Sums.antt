-- Sums of two components with factors that are one together.
use Rattle.std.proofs.Common.{◌≡◌, ℕ, ◌<◌, ◌≤◌, ◌+◌, ◌-◌, ◌*◌, arith}
use Rattle.std.proofs.Math.Nat.{mul-le-mul_right}

pub sum_to : (x y a : ℕ) → x < 256 → y < 256 → a < 256 → x * a + y * (255 - a) ≤ 65025
sum_to x y a x_fits y_fits a_fits =
    let b = 255 - a in
    let whole : a + b ≡ 255 = omega arith in
    let x_to : x ≤ 255 = omega arith in
    let y_to : y ≤ 255 = omega arith in
    let first : x * a ≤ 255 * a = mul-le-mul_right a x_to in
    let second : y * b ≤ 255 * b = mul-le-mul_right b y_to in
    omega (arith, first, second, whole)
