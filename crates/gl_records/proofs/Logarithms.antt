-- The place of the highest bit.
use Rattle.std.proofs.Common.{◌≡◌, ℕ, ◌<◌, ◌≤◌, ◌+◌, ◌-◌, ◌*◌, ◌^◌, suc, arith, inl, inr}
use Rattle.std.specs.Int.{w64, leading_zeros}
use Rattle.std.proofs.lemmas.Bool.{cases_lt}
use Rattle.std.proofs.lemmas.Nat.{leading_top, leading_length}
use Rattle.std.proofs.Math.Nat.{pow-suc, pow-le-pow_right}
use Rattle.gl_records.specs.TopBit.{top_bit}

-- the highest bit is at most the number
pub top_bit-at_least : (n : ℕ) → 0 < n → n < 2 ^ 64 → 2 ^ top_bit n ≤ n
unfolding top_bit
top_bit-at_least n p q =
    let t = leading_top 64 n p q in
    let place : 63 - leading_zeros w64 n ≡ t.0 = omega (arith, t.1) in
    rw place t.2

-- a number of k bits is no number of more: 2 ^ m is at most twice the number and 1
length_at_most : (n k m : ℕ) → n < 2 ^ k → 2 ^ m ≤ 2 * n + 1 → m ≤ k
length_at_most n k m r h =
    elim (cases_lt k m) [
      | inl more ↦ let double : 2 ^ suc k ≤ 2 ^ m = pow-le-pow_right {n = 2} (omega arith) (omega arith) in
          absurd (omega (arith, pow-suc 2 k, double))
      | inr few ↦ few
    ]

-- a number of k bits has its highest bit below place k
pub top_bit-below : (n k : ℕ) → 0 < k → k ≤ 64 → n < 2 ^ k → top_bit n < k
unfolding top_bit
top_bit-below n k p q r =
    let whole : 2 ^ k ≤ 2 ^ 64 = pow-le-pow_right {n = 2} (omega arith) q in
    let t = leading_length 64 n (omega arith) in
    let few = length_at_most n k t.0 r t.3 in
    omega (arith, few, t.1)

-- the number is below twice its highest bit
pub top_bit-next_above : (n : ℕ) → n < 2 ^ 64 → n < 2 ^ (top_bit n + 1)
unfolding top_bit
top_bit-next_above n q =
    let t = leading_length 64 n q in
    let most : t.0 ≤ 63 - leading_zeros w64 n + 1 = omega (arith, t.1) in
    let above : 2 ^ t.0 ≤ 2 ^ (63 - leading_zeros w64 n + 1) = pow-le-pow_right {n = 2} (omega arith) most in
    omega (arith, t.2, above)
