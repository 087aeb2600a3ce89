-- The nine leading bits of a number of 64 bits.
use Rattle.std.proofs.Common.{◌≡◌, ◌∙◌, ℕ, ◌<◌, ◌≤◌, ◌+◌, ◌-◌, ◌*◌, ◌/◌, ◌^◌, ap, arith, mul_assoc, mul_comm, sym}
use Rattle.std.proofs.Math.Nat.{add-mul-div_right, mul-div-mul_right}
use Rattle.std.proofs.lemmas.Nat.{pow-add, pow_pos, shl_below, shr_below}

-- shifted until its highest bit is the last, and back to nine
shifted : (n place shift : ℕ) → place + shift ≡ 63 → n * 2 ^ shift / 2 ^ 55 ≡ n * 256 / 2 ^ place
shifted n place shift all =
    let whole : 2 ^ 63 ≡ 2 ^ place * 2 ^ shift = ap (λ k. 2 ^ k) (sym all) ∙ pow-add 2 place shift in
    let turned : n * 2 ^ shift * 256 ≡ n * 256 * 2 ^ shift =
    mul_assoc n (2 ^ shift) 256 ∙ ap (λ m. n * m) (mul_comm (2 ^ shift) 256) ∙ sym (mul_assoc n 256 (2 ^ shift)) in
    let wide : n * 2 ^ shift * 256 / 2 ^ 63 ≡ n * 2 ^ shift / 2 ^ 55 = mul-div-mul_right {m = 256} (n * 2 ^ shift) (2 ^ 55) (omega arith) in
    let narrow : n * 256 * 2 ^ shift / (2 ^ place * 2 ^ shift) ≡ n * 256 / 2 ^ place = mul-div-mul_right {m = 2 ^ shift} (n * 256) (2 ^ place) (pow_pos shift) in
    sym wide ∙ ap (λ m. m / 2 ^ 63) turned ∙ ap (λ m. n * 256 * 2 ^ shift / m) whole ∙ narrow

pub leading-value : (n place shift : ℕ) → place + shift ≡ 63 → 2 ^ place ≤ n → n * 2 ^ shift / 2 ^ 55 ≡ 256 + (n - 2 ^ place) * 256 / 2 ^ place
leading-value n place shift all least =
    let split : n * 256 ≡ (n - 2 ^ place) * 256 + 256 * 2 ^ place = omega (arith, least) in
    let parts : ((n - 2 ^ place) * 256 + 256 * 2 ^ place) / 2 ^ place ≡ (n - 2 ^ place) * 256 / 2 ^ place + 256 =
    add-mul-div_right ((n - 2 ^ place) * 256) 256 {z = 2 ^ place} (pow_pos place) in
    shifted n place shift all ∙ ap (λ m. m / 2 ^ place) split ∙ parts ∙ omega arith

pub leading-bound : (n place shift : ℕ) → place + shift ≡ 63 → n < 2 ^ (place + 1) → n * 2 ^ shift / 2 ^ 55 < 512
leading-bound n place shift all below =
    let wide = shl_below n (place + 1) shift below in
    let sum : place + 1 + shift ≡ 9 + 55 = omega (arith, all) in
    shr_below (n * 2 ^ shift) 9 55 (rw sum at wide)
