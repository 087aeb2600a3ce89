-- The blend of two levels.
use Rattle.std.proofs.Common.{◌≡◌, ℕ, ◌+◌, ◌-◌, ◌*◌, ◌/◌, List, [], ◌∷◌, length, slice_index, arith, refl}
use Rattle.gl_records.specs.Color.{color_of}
use Rattle.gl_records.specs.Sampling.{blended}

-- a second level that doesn't count leaves a component as it is
alone : (x y : ℕ) → x ≡ ((256 - 0) * x + 0 * y + 128) / 256
alone x y = omega arith

-- and so a colour
pub color_alone : (first second : List ℕ) → length first ≡ 4 → first ≡ color_of (blended 0 first second)
color_alone (a ∷ b ∷ c ∷ d ∷ []) second four =
    rw (← alone a (slice_index second 0), ← alone b (slice_index second 1), ← alone c (slice_index second 2), ← alone d (slice_index second 3)) refl
color_alone [] second four = absurd (omega (arith, four))
color_alone (a ∷ []) second four = absurd (omega (arith, four))
color_alone (a ∷ b ∷ []) second four = absurd (omega (arith, four))
color_alone (a ∷ b ∷ c ∷ []) second four = absurd (omega (arith, four))
color_alone (a ∷ b ∷ c ∷ d ∷ e ∷ rest) second four = absurd (omega (arith, four))

pub first_alone : (weight : ℕ) (color first second : List ℕ) → weight ≡ 0 → length color ≡ 4 → color ≡ first → color ≡ color_of (blended weight first second)
first_alone weight color first second none four is = rw (none, ← is) (color_alone color second four)

pub two_blended : (weight : ℕ) (first second whole other : List ℕ) → first ≡ whole → second ≡ other → color_of (blended weight first second) ≡ color_of (blended weight whole other)
two_blended weight first second whole other p q = rw (p, q) refl
