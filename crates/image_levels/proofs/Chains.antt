-- The levels of an image, each of halved sides, and those that have been made.
use Rattle.std.proofs.Common.{◌≡◌, ◌<◌, ◌≤◌, ◌*◌, ◌/◌, ◌^◌, ℕ, zero, suc, max, inl, inr, refl, sym, ap, ◌∙◌, arith}
use Rattle.std.proofs.lemmas.Bool.{cases_lt}
use Rattle.std.proofs.lemmas.Nat.{le-div, pow_pos}
use Rattle.std.proofs.Math.Nat.{div-div-eq-div-mul, max-eq_left, max-eq_right, max-le, le-max_left, le-max_right, pow-suc, pow-le-pow_right, mul-le-mul_right}
use Rattle.gl_records.specs.Complete.{halved, last_of}
use Rattle.gl_records.specs.TopBit.{top_bit}
use Rattle.gl_records.specs.declared.level.Level.{Level}
use Rattle.gl_records.proofs.Logarithms.{top_bit-at_least, top_bit-below}
use Rattle.image_levels.specs.Mipmaps.{IsFirst, mipmap_level}
use Rattle.image_levels.specs.Texels.{IsFilled}
use Rattle.image_levels.proofs.Rows.{length-texels_by}

-- a side of level 0 is the side
pub halved-zero : (side : ℕ) → 1 ≤ side → halved side 0 ≡ side
halved-zero side least =
    let whole : side / 2 ^ 0 ≡ side = omega arith in
    ap (λ (q : ℕ). max q 1) whole ∙ max-eq_left least

-- one level further a side is halved once more
pub halved-more : (side k : ℕ) → halved (halved side k) 1 ≡ halved side (suc k)
halved-more side k =
    let q = side / 2 ^ k in
    let twice : 2 ^ k * 2 ≡ 2 ^ suc k = let p = pow-suc 2 k in grind (arith, p) in
    let quotient : q / 2 ≡ side / 2 ^ suc k = div-div-eq-div-mul side (2 ^ k) 2 ∙ ap (λ (n : ℕ). side / n) twice in
    let once : (max q 1) / 2 ^ 1 ≡ (max q 1) / 2 = omega arith in
    ap (λ (n : ℕ). max n 1) once ∙ least q ∙ ap (λ (n : ℕ). max n 1) quotient
  where
    least : (q : ℕ) → max ((max q 1) / 2) 1 ≡ max (q / 2) 1
    least zero = refl
    least (suc q) = let some : max (suc q) 1 ≡ suc q = max-eq_left (omega arith) in ap (λ (n : ℕ). max (n / 2) 1) some

pub mipmap_level-w : (first : Level) (k : ℕ) → 1 ≤ first.w → (mipmap_level first k).w ≡ halved first.w k
mipmap_level-w first zero least = sym (halved-zero first.w least)
mipmap_level-w first (suc k) least = ap (λ (side : ℕ). halved side 1) (mipmap_level-w first k least) ∙ halved-more first.w k

pub mipmap_level-h : (first : Level) (k : ℕ) → 1 ≤ first.h → (mipmap_level first k).h ≡ halved first.h k
mipmap_level-h first zero least = sym (halved-zero first.h least)
mipmap_level-h first (suc k) least = ap (λ (side : ℕ). halved side 1) (mipmap_level-h first k least) ∙ halved-more first.h k

pub mipmap_level-format : (first : Level) (k : ℕ) → (mipmap_level first k).format ≡ first.format
mipmap_level-format first zero = refl
mipmap_level-format first (suc k) = mipmap_level-format first k

pub mipmap_level-filled : (first : Level) (k : ℕ) → IsFilled first → IsFilled (mipmap_level first k)
mipmap_level-filled first zero filled = filled
mipmap_level-filled first (suc k) filled = length-texels_by _ _ _

-- the number of the last level
pub last-small : (first : Level) → IsFirst first → last_of first < 11
last-small first is =
    let most : max first.w first.h ≤ 1024 = max-le is.w_most is.h_most in
    top_bit-below (max first.w first.h) 11 (omega arith) (omega arith) (omega (arith, most))

-- a side that is so large is larger than 1 at that level
side-larger : (side k : ℕ) → 2 * 2 ^ k ≤ side → 2 ≤ halved side k
side-larger side k large =
    let half : 2 ≤ side / 2 ^ k = le-div 2 side (2 ^ k) (pow_pos k) large in
    let whole : side / 2 ^ k ≤ halved side k = le-max_left (side / 2 ^ k) 1 in
    omega (arith, half, whole)

area-larger : (a b : ℕ) → 2 ≤ a → 1 ≤ b → 2 ≤ a * b
area-larger a b wide high =
    let more : 2 * b ≤ a * b = mul-le-mul_right b wide in
    omega (arith, more, high)

-- before the last, a level is larger than 1 by 1
pub level-larger : (first : Level) (k : ℕ) → IsFirst first → k < last_of first → 2 ≤ halved first.w k * halved first.h k
level-larger first k is before =
    let w_part = le-max_left first.w first.h in
    let most : max first.w first.h ≤ 1024 = max-le is.w_most is.h_most in
    let some : 0 < max first.w first.h = omega (arith, w_part, is.w_least) in
    let power : 2 ^ top_bit (max first.w first.h) ≤ max first.w first.h = top_bit-at_least (max first.w first.h) some (omega (arith, most)) in
    let rising : 2 ^ suc k ≤ 2 ^ top_bit (max first.w first.h) = pow-le-pow_right {n = 2} (omega arith) before in
    let twice : 2 * 2 ^ k ≡ 2 ^ suc k = let p = pow-suc 2 k in grind (arith, p) in
    let large : 2 * 2 ^ k ≤ max first.w first.h = omega (arith, power, rising, twice) in
    let w_least : 1 ≤ halved first.w k = le-max_right (first.w / 2 ^ k) 1 in
    let h_least : 1 ≤ halved first.h k = le-max_right (first.h / 2 ^ k) 1 in
    elim (cases_lt first.w first.h) [
      | inl less ↦
          let is_h : max first.w first.h ≡ first.h = max-eq_right (omega (arith, less)) in
          let turned : halved first.h k * halved first.w k ≡ halved first.w k * halved first.h k = grind arith in
          let area = area-larger (halved first.h k) (halved first.w k) (side-larger first.h k (omega (arith, large, is_h))) w_least in
          omega (arith, area, turned)
      | inr more ↦
          let is_w : max first.w first.h ≡ first.w = max-eq_left more in
          area-larger (halved first.w k) (halved first.h k) (side-larger first.w k (omega (arith, large, is_w))) h_least
    ]
