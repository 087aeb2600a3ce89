-- Between which places the bits of a row are set.
use Rattle.std.proofs.Common.{◌≡◌, ℕ, ◌<◌, ◌≤◌, ◌+◌, ◌*◌, ◌^◌, arith}
use Rattle.std.specs.Int.{bit_at, w16}
use Rattle.std.proofs.lemmas.Nat.{pow-add}
use Rattle.std.proofs.lemmas.Nat.Bits.{bit_at-trailing_zeros, bit_at_above}
use Rattle.std.specs.Int.Count.{count_trailing_zeros}

-- no bit is set before the lowest
pub set_from : (n i : ℕ) → 0 < n → n < 2 ^ 16 → bit_at n i ≡ 1 → count_trailing_zeros 16 n ≤ i
set_from n i above fits set =
    let none = (bit_at-trailing_zeros w16 n above fits).2 i in
    let apart : ¬ (i < count_trailing_zeros 16 n) = λ below. absurd (omega (arith, set, none below)) in
    omega (arith, apart)

-- and none behind the highest
pub set_below : (n j i : ℕ) → n < 2 * 2 ^ j → bit_at n i ≡ 1 → i < j + 1
set_below n j i less set =
    let fits : n < 2 ^ (1 + j) = rw (pow-add 2 1 j) less in
    let apart : ¬ (j + 1 ≤ i) = λ from. absurd (omega (arith, set, bit_at_above n (1 + j) i fits (omega (arith, from)))) in
    omega (arith, apart)
