-- The square root rounded down: the one whole number between whose squares n lies.
use Rattle.std.proofs.Common.{◌≡◌, ℕ, zero, suc, ◌+◌, ◌*◌, ◌<◌, ◌≤◌, arith}
use Rattle.std.proofs.lemmas.Nat.{mul-le}
use Rattle.std.proofs.lemmas.Bool.{cases_order}
use Rattle.std.proofs.lemmas.Bool.Decides.{nat_tests}
use Rattle.std.specs.Prelude.{nat_le, if◌then◌else◌}
use Rattle.std.proofs.Common.{inl, inr}
use Rattle.fx_arith.specs.Vector.{isqrt}

-- the root of the next number
next_root : ℕ → ℕ → ℕ
next_root r n = if nat_le ((r + 1) * (r + 1)) n then r + 1 else r

next_root-within : (r n : ℕ) → r * r ≤ n → next_root r (suc n) * next_root r (suc n) ≤ suc n
unfolding next_root
next_root-within r n h = grind (arith, nat_tests)

next_root-next_above : (r n : ℕ) → n < (r + 1) * (r + 1) → suc n < (next_root r (suc n) + 1) * (next_root r (suc n) + 1)
unfolding next_root
next_root-next_above r n h = grind (arith, nat_tests)

-- its square is at most n
pub isqrt-within : (n : ℕ) → isqrt n * isqrt n ≤ n
unfolding isqrt next_root
isqrt-within zero = omega arith
isqrt-within (suc n) = next_root-within (isqrt n) n (isqrt-within n)

-- the next number's square is above n
pub isqrt-next_above : (n : ℕ) → n < (isqrt n + 1) * (isqrt n + 1)
unfolding isqrt next_root
isqrt-next_above zero = omega arith
isqrt-next_above (suc n) = next_root-next_above (isqrt n) n (isqrt-next_above n)

-- one number lies so
pub root_is : (r n : ℕ) → r * r ≤ n → n < (r + 1) * (r + 1) → r ≡ isqrt n
root_is r n within above =
    let q = isqrt n in
    let q_within : q * q ≤ n = isqrt-within n in
    let q_above : n < (q + 1) * (q + 1) = isqrt-next_above n in
    elim (cases_order r q) [
      | inl same ↦ same
      | inr apart ↦ elim apart [
        | inl less ↦ absurd (omega (arith, mul-le (r + 1) (r + 1) q q (omega arith) (omega arith)))
        | inr more ↦ absurd (omega (arith, mul-le (q + 1) (q + 1) r r (omega arith) (omega arith)))
      ]
    ]
