-- A linear function in fixed point, made of quotients that are rounded down, has the exact quotient's whole part.
use Rattle.std.proofs.Common.{◌≡◌, ℕ, ◌*◌, ◌^◌, ◌<◌, ◌≤◌, ap, sym, ◌∙◌, arith}
use Rattle.std.specs.Prelude.{ℤ, pos, negsuc, ◌+ℤ◌, ◌-ℤ◌, ◌*ℤ◌, ◌≤ℤ◌, ◌<ℤ◌, unsigned_abs}
use Rattle.std.proofs.lemmas.Int.{ints}
use Rattle.std.proofs.Math.IntN.{*ℤ_comm, *ℤ-zero}
use Rattle.fx_arith.specs.Number.{floor_div}
use Rattle.fx_arith.proofs.Products.{+ℤ-*ℤ, *ℤ--ℤ, *ℤ_assoc, *ℤ-≤, *ℤ-nonnegative, *ℤ-cancel_≤, *ℤ-cancel_<}
use Rattle.fx_arith.proofs.Floors.{floor_div-multiple_within, floor_div-next_multiple_above, floor_div-unique, floor_div-+ℤ-multiple}
use Rattle.plane_equations.specs.declared.plane.Plane.{Plane}
use Rattle.plane_equations.specs.FixedPlanes.{HasSmallQuotient}
use Rattle.plane_equations.specs.Within.{IsWithin}
use Rattle.plane_equations.proofs.Boxes.{within_box}
use Rattle.plane_equations.proofs.Guesses.{exchanged}

-- what is scaled by 2^37, and off by less than that, has the quotient's whole part
near_enough : (fixed n : ℤ) (d : ℕ) → 0 < d → d ≤ 2 ^ 31 → (pos 137438953472 *ℤ n) ≤ℤ (fixed *ℤ pos d)
    → (fixed *ℤ pos d) ≤ℤ (pos 137438953472 *ℤ n +ℤ pos (33 * d)) → floor_div fixed 137438953472 ≡ floor_div n d
near_enough fixed n d some small from to =
    let q = floor_div n d in
    let within = floor_div-multiple_within n d some in
    let above = floor_div-next_multiple_above n d some in
    let at = exchanged q (pos 137438953472) (pos d) in
    let next_at = exchanged (q +ℤ pos 1) (pos 137438953472) (pos d) in
    floor_div-unique fixed q 137438953472 (omega arith)
    (*ℤ-cancel_≤ (pos d) (q *ℤ pos 137438953472) fixed (omega (arith, ints))
    (omega (arith, ints, from, within, at, *ℤ_comm (pos d) (q *ℤ pos 137438953472), *ℤ_comm (pos d) fixed)))
    (*ℤ-cancel_< (pos d) fixed ((q +ℤ pos 1) *ℤ pos 137438953472) (omega (arith, ints))
    (omega (arith, ints, to, above, next_at, *ℤ_comm (pos d) ((q +ℤ pos 1) *ℤ pos 137438953472), *ℤ_comm (pos d) fixed)))

-- what the rounding of a quotient leaves
left : ℤ → ℕ → ℤ
left z d = z -ℤ floor_div z d *ℤ pos d

left-from : (z : ℤ) (d : ℕ) → 0 < d → pos 0 ≤ℤ left z d
unfolding left
left-from z d some = omega (arith, ints, floor_div-multiple_within z d some)

left-to : (z : ℤ) (d : ℕ) → 0 < d → left z d ≤ℤ pos d
unfolding left
left-to z d some = omega (arith, ints, floor_div-next_multiple_above z d some, +ℤ-*ℤ (floor_div z d) (pos 1) (pos d))

-- i steps, each rounded down, are off by no more than 16 divisors
steps_off : (step : ℤ) (d i : ℕ) → 0 < d → i ≤ 16
    → (((pos i *ℤ floor_div (pos 137438953472 *ℤ step) d) *ℤ pos d) ≤ℤ (pos 137438953472 *ℤ (pos i *ℤ step)))
    × ((pos 137438953472 *ℤ (pos i *ℤ step)) ≤ℤ ((pos i *ℤ floor_div (pos 137438953472 *ℤ step) d) *ℤ pos d +ℤ pos (16 * d)))
unfolding left
steps_off step d i some fits =
    let z = pos 137438953472 *ℤ step in
    let q = floor_div z d in
    let off = left z d in
    let least = *ℤ-nonnegative (pos i) off (omega (arith, ints)) (left-from z d some) in
    let more = *ℤ-≤ off (pos i) (pos 16) (left-from z d some) (omega (arith, ints)) in
    let apart = *ℤ--ℤ (pos i) z (q *ℤ pos d) in
    let inner = *ℤ_assoc (pos i) q (pos d) in
    let turned : pos i *ℤ (pos 137438953472 *ℤ step) ≡ pos 137438953472 *ℤ (pos i *ℤ step) =
    sym (*ℤ_assoc (pos i) (pos 137438953472) step) ∙ ap (λ product. product *ℤ step) (*ℤ_comm (pos i) (pos 137438953472)) ∙ *ℤ_assoc (pos 137438953472) (pos i) step in (
      omega (arith, ints, least, apart, inner, turned),
      omega (arith, ints, more, left-to z d some, apart, inner, turned, *ℤ_comm off (pos i), *ℤ_comm off (pos 16)),
    )

-- an origin and steps along both sides, with 33 added for what rounding took
fixed_sum : (origin right up : ℤ) (d i j : ℕ) → ℤ
fixed_sum origin right up d i j =
    floor_div (pos 137438953472 *ℤ origin) d +ℤ pos 33 +ℤ pos i *ℤ floor_div (pos 137438953472 *ℤ right) d +ℤ pos j *ℤ floor_div (pos 137438953472 *ℤ up) d

-- it is no less than the exact sum, and more by less than 33 divisors
between : (origin right up : ℤ) (d i j : ℕ) → 0 < d → i ≤ 16 → j ≤ 16
    → ((pos 137438953472 *ℤ (origin +ℤ pos i *ℤ right +ℤ pos j *ℤ up)) ≤ℤ (fixed_sum origin right up d i j *ℤ pos d))
    × ((fixed_sum origin right up d i j *ℤ pos d) ≤ℤ (pos 137438953472 *ℤ (origin +ℤ pos i *ℤ right +ℤ pos j *ℤ up) +ℤ pos (33 * d)))
unfolding fixed_sum
between origin right up d i j some fits_i fits_j =
    let first = floor_div (pos 137438953472 *ℤ origin) d in
    let along = pos i *ℤ floor_div (pos 137438953472 *ℤ right) d in
    let above = pos j *ℤ floor_div (pos 137438953472 *ℤ up) d in
    let first_within = floor_div-multiple_within (pos 137438953472 *ℤ origin) d some in
    let first_above = floor_div-next_multiple_above (pos 137438953472 *ℤ origin) d some in
    let first_next = +ℤ-*ℤ first (pos 1) (pos d) in
    let along_off = steps_off right d i some fits_i in
    let above_off = steps_off up d j some fits_j in
    let outer = +ℤ-*ℤ (first +ℤ pos 33 +ℤ along) above (pos d) in
    let inner = +ℤ-*ℤ (first +ℤ pos 33) along (pos d) in
    let innermost = +ℤ-*ℤ first (pos 33) (pos d) in (
      omega (arith, ints, first_above, first_next, along_off.1, above_off.1, outer, inner, innermost),
      omega (arith, ints, first_within, along_off.0, above_off.0, outer, inner, innermost),
    )

-- a function with these numbers has the exact quotients
pub fixed_value : (first along above origin right up : ℤ) (d i j : ℕ) → 0 < d → d ≤ 2 ^ 31 → first ≡ floor_div (pos 137438953472 *ℤ origin) d +ℤ pos 33
    → along ≡ floor_div (pos 137438953472 *ℤ right) d → above ≡ floor_div (pos 137438953472 *ℤ up) d → i ≤ 16 → j ≤ 16
    → floor_div (first +ℤ pos i *ℤ along +ℤ pos j *ℤ above) 137438953472 ≡ floor_div (origin +ℤ pos i *ℤ right +ℤ pos j *ℤ up) d
unfolding fixed_sum
fixed_value first along above origin right up d i j some small first_is along_is above_is fits_i fits_j =
    let close = between origin right up d i j some fits_i fits_j in
    rw (first_is, along_is, above_is) (near_enough _ (origin +ℤ pos i *ℤ right +ℤ pos j *ℤ up) d some small close.0 close.1)

-- it is within 2^61 where the quotient is within 2^23
narrow : (fixed n : ℤ) (d : ℕ) → 0 < d → unsigned_abs n ≤ 8388608 * d → (pos 137438953472 *ℤ n) ≤ℤ (fixed *ℤ pos d)
    → (fixed *ℤ pos d) ≤ℤ (pos 137438953472 *ℤ n +ℤ pos (33 * d)) → unsigned_abs fixed ≤ 2 ^ 61
narrow fixed n d some small from to =
    let below = *ℤ-cancel_≤ (pos d) fixed (pos 1152921504606847009) (omega (arith, ints)) (omega (arith, ints, to, *ℤ_comm (pos d) fixed)) in
    let above = *ℤ-cancel_≤ (pos d) (negsuc 1152921504606846975) fixed (omega (arith, ints)) (omega (arith, ints, from, *ℤ_comm (pos d) fixed)) in
    omega (arith, ints, below, above)

-- so it is at the four corners
pub narrow_corners : (p : Plane) (d : ℕ) → 0 < d → HasSmallQuotient p d
    → IsWithin (2 ^ 61) (floor_div (pos 137438953472 *ℤ p.origin) d +ℤ pos 33) (floor_div (pos 137438953472 *ℤ p.right) d) (floor_div (pos 137438953472 *ℤ p.up) d)
unfolding fixed_sum
narrow_corners p d some has =
    let right = floor_div (pos 137438953472 *ℤ p.right) d in
    let up = floor_div (pos 137438953472 *ℤ p.up) d in
    let at : (i j : ℕ) → i ≤ 16 → j ≤ 16 → unsigned_abs (fixed_sum p.origin p.right p.up d i j) ≤ 2 ^ 61 =
    λ i j fits_i fits_j. let close = between p.origin p.right p.up d i j some fits_i fits_j in
    narrow (fixed_sum p.origin p.right p.up d i j) (p.origin +ℤ pos i *ℤ p.right +ℤ pos j *ℤ p.up) d some
    (within_box (8388608 * d) p.origin p.right p.up i j fits_i fits_j has.values) close.0 close.1 in
    let no_right = *ℤ_comm (pos 0) right ∙ *ℤ-zero right in
    let no_up = *ℤ_comm (pos 0) up ∙ *ℤ-zero up in
    record {
      first = omega (arith, ints, at 0 0 (omega arith) (omega arith), no_right, no_up);
      along = omega (arith, ints, at 16 0 (omega arith) (omega arith), no_up);
      above = omega (arith, ints, at 0 16 (omega arith) (omega arith), no_right);
      across = omega (arith, ints, at 16 16 (omega arith) (omega arith));
    }

-- the numbers of such a function
pub small_numbers : (p : Plane) (d : ℕ) → HasSmallQuotient p d → (unsigned_abs p.origin ≤ 2 ^ 54) × (unsigned_abs p.right ≤ 2 ^ 54) × (unsigned_abs p.up ≤ 2 ^ 54)
small_numbers p d has =
    let divisor = has.divisor in (
      omega (arith, ints, divisor, has.values.first),
      omega (arith, ints, divisor, has.values.first, has.values.along),
      omega (arith, ints, divisor, has.values.first, has.values.above),
    )

-- a quotient of what is scaled by 2^37, by two digits
pub digits : (z high low rest divisor : ℤ) → pos 0 <ℤ divisor → high ≡ floor_div (pos 128 *ℤ z) (unsigned_abs divisor) → rest ≡ pos 128 *ℤ z -ℤ high *ℤ divisor
    → low ≡ floor_div (pos 1073741824 *ℤ rest) (unsigned_abs divisor) → pos 1073741824 *ℤ high +ℤ low ≡ floor_div (pos 137438953472 *ℤ z) (unsigned_abs divisor)
digits z high low rest (pos d) some high_is rest_is low_is =
    let split : pos 1073741824 *ℤ rest +ℤ (pos 1073741824 *ℤ high) *ℤ pos d ≡ pos 137438953472 *ℤ z =
    omega (arith, ints, rest_is, *ℤ_assoc (pos 1073741824) high (pos d)) in
    let both = floor_div-+ℤ-multiple (pos 1073741824 *ℤ rest) (pos 1073741824 *ℤ high) d (omega (arith, ints, some)) in
    let whole = ap (λ product. floor_div product d) (sym split) ∙ both in
    omega (arith, ints, whole, low_is)
digits z high low rest (negsuc d) some high_is rest_is low_is = absurd (omega (arith, ints, some))
