-- A place modulo a power of two, by a mask.
use Rattle.std.proofs.Common.{◌≡◌, ◌∙◌, ℕ, ◌<◌, ◌≤◌, ◌+◌, ◌-◌, ◌*◌, ◌%◌, ◌^◌, suc, true, bit_and, ap, sym, arith, refl}
use Rattle.std.specs.Prelude.{ℤ, pos, negsuc, FitsSigned, count_ones}
use Rattle.std.specs.Int.Count.{ones}
use Rattle.std.specs.Int.{w64, cast_signed, int_rem_euclid, is_power_of_two, cast_unsigned}
use Rattle.std.proofs.lemmas.Bool.{eqb-true}
use Rattle.std.proofs.lemmas.Int.{ints, int_rem_euclid_is, to_z_pos}
use Rattle.std.proofs.lemmas.Nat.{and_mask, leading_top, mod_below, ones_cat, ones_le_self, pow-add, pow_pos, zero_from_ones}
use Rattle.std.proofs.Math.Nat.{pow-suc}

-- a number of 64 bits of which one is set is a power of two
pub power_of : (n : ℕ) → n < 2 ^ 64 → is_power_of_two n ≡ true → (j : ℕ) × (n ≡ 2 ^ j) × (j ≤ 64)
unfolding ones
power_of n few one =
    let set : count_ones n ≡ 1 = eqb-true (count_ones n) 1 one in
    let t = leading_top 64 n (omega (arith, ones_le_self n)) few in
    let rest = n - 2 ^ t.0 in
    let split : 1 * 2 ^ t.0 + rest ≡ n = omega (arith, t.2) in
    let below : rest < 2 ^ t.0 = omega (arith, t.2, t.3, pow-suc 2 t.0) in
    let sum = ones_cat t.0 1 rest below in
    let first : count_ones 1 ≡ 1 = refl in
    let none : count_ones rest ≡ 0 = omega (arith, sum, ap count_ones split) in
    let nothing = zero_from_ones rest none in
    (t.0, omega (arith, split, nothing), omega (arith, t.1))

-- the bits of a number below a power of two
pub bits-below : (m n : ℕ) → n < 2 ^ 64 → is_power_of_two n ≡ true → bit_and m (n - 1) ≡ m % n
bits-below m n few one =
    let t = power_of n few one in
    rw t.1 (and_mask m t.0)

-- the remainder of a place of 64 bits is that of its bits
pub rem_euclid-bits : (z : ℤ) (n : ℕ) → n < 2 ^ 64 → is_power_of_two n ≡ true → FitsSigned w64 z → int_rem_euclid z (pos n) ≡ pos (cast_unsigned w64 z % n)
rem_euclid-bits (pos a) n few one fits = refl
rem_euclid-bits (negsuc a) n few one fits =
    let t = power_of n few one in
    let places : 64 - t.0 + t.0 ≡ 64 = omega (arith, t.2) in
    let whole : 2 ^ (64 - t.0) * n ≡ 2 ^ 64 =
    ap (λ m. 2 ^ (64 - t.0) * m) t.1 ∙ sym (pow-add 2 (64 - t.0) t.0) ∙ ap (λ k. 2 ^ k) places in
    let above : 0 < n = omega (arith, t.1, pow_pos t.0) in
    int_rem_euclid_is (negsuc a) (pos n) n (2 ^ (64 - t.0)) (2 ^ 64 - suc a) above refl
    (omega (arith, ints, whole, fits))

-- the mask of a power of two gives the remainder
pub masked-value : (z mask : ℤ) (n : ℕ) → 0 < n → n < 2 ^ 16 → is_power_of_two n ≡ true → FitsSigned w64 z → mask ≡ pos (n - 1)
    → cast_signed w64 (bit_and (cast_unsigned w64 z) (cast_unsigned w64 mask)) ≡ int_rem_euclid z (pos n)
masked-value z mask n above few one fits is =
    let below = mod_below (cast_unsigned w64 z) n above in
    let small : cast_unsigned w64 z % n < 2 ^ 63 = omega (arith, below) in
    rw is (rw (bits-below (cast_unsigned w64 z) n (omega arith) one) (to_z_pos w64 (cast_unsigned w64 z % n) small ∙ sym (rem_euclid-bits z n (omega arith) one fits)))
