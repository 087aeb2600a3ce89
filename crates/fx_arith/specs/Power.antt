-- Powers and the exponential on unbounded whole numbers. Every rounding is this project's own.
use Rattle.std.specs.Prelude.{ℕ, ℤ, pos, zero, suc, ◌-◌, ◌*◌, ◌/◌, ◌%◌, ◌^◌, unsigned_abs}
use Rattle.fx_arith.specs.Number.{one, mul}

-- a number to a whole power: 1, multiplied by the number as often, rounded down each time
unfoldable pub power : ℤ → ℕ → ℤ
power base zero = one
power base (suc n) = mul (power base n) base

-- 2 to the power of -part, for a part below 1, by a polynomial of degree 2 that is rounded down at each step
abbrev pub half_power : ℕ → ℕ
half_power part = 65536 - part * (43691 - 10923 * part / 65536) / 65536

-- e to the power of -x, for x that isn't negative: 2 to the power of -x / log 2, which is 1/2 as often as
-- the whole part of x / log 2 says, and the power of what is left (94548 is 1 / log 2)
unfoldable pub exp_neg : ℤ → ℕ
exp_neg x =
    let doublings = unsigned_abs (mul x (pos 94548)) in
    half_power (doublings % 65536) / 2 ^ (doublings / 65536)
