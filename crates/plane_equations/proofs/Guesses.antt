-- A guess at a quotient by a reciprocal is at most one off, and what it leaves says which way.
use Rattle.std.proofs.Common.{◌≡◌, ℕ, ◌+◌, ◌*◌, ◌-◌, ◌^◌, ◌<◌, ◌≤◌, ap, sym, ◌∙◌, arith}
use Rattle.std.specs.Prelude.{ℤ, pos, negsuc, ◌+ℤ◌, ◌-ℤ◌, ◌*ℤ◌, ◌≤ℤ◌, ◌<ℤ◌, unsigned_abs}
use Rattle.std.proofs.lemmas.Int.{ints}
use Rattle.std.proofs.Math.IntN.{*ℤ_comm}
use Rattle.std.proofs.Math.Nat.{div-le_self}
use Rattle.fx_arith.specs.Number.{floor_div}
use Rattle.fx_arith.proofs.Products.{*ℤ-+ℤ, +ℤ-*ℤ, -ℤ-*ℤ, *ℤ_assoc, *ℤ-nonnegative, *ℤ-≤, *ℤ-<, unsigned_abs-*ℤ-≤}
use Rattle.fx_arith.proofs.Floors.{floor_div-multiple_within, floor_div-next_multiple_above, floor_div-unique}

-- the second and the third factor of a product change places
pub exchanged : (a b c : ℤ) → (a *ℤ b) *ℤ c ≡ (a *ℤ c) *ℤ b
exchanged a b c = *ℤ_assoc a b c ∙ ap (λ product. a *ℤ product) (*ℤ_comm b c) ∙ sym (*ℤ_assoc a c b)

-- z times 2^64, by the reciprocal r of d and what it leaves of 2^64
by_reciprocal : (z : ℤ) (r d e : ℕ) → r * d + e ≡ 2 ^ 64 → z *ℤ pos (2 ^ 64) ≡ (z *ℤ pos r) *ℤ pos d +ℤ z *ℤ pos e
by_reciprocal z r d e whole =
    ap (λ n. z *ℤ pos n) (sym whole) ∙ *ℤ-+ℤ z (pos (r * d)) (pos e) ∙ ap (λ product. product +ℤ z *ℤ pos e) (sym (*ℤ_assoc z (pos r) (pos d)))

-- what the remainder of 2^64 makes of z is small beside d times 2^64
small_rest : (z : ℤ) (d e : ℕ) → unsigned_abs z ≤ 2 ^ 61 → e ≤ 2 * d → unsigned_abs (z *ℤ pos e) ≤ 2 ^ 61 * (2 * d)
small_rest z d e small less = unsigned_abs-*ℤ-≤ z (pos e) (2 ^ 61) (2 * d) small less

not_far : (z g : ℤ) (r d : ℕ) → unsigned_abs z ≤ 2 ^ 61 → r * d < 2 ^ 64 → 2 ^ 64 ≤ (r + 2) * d → g ≡ floor_div (z *ℤ pos r) (2 ^ 64)
    → ((g *ℤ pos d) ≤ℤ (z +ℤ pos d)) × (z <ℤ (g *ℤ pos d +ℤ pos d +ℤ pos d))
not_far z g r d small below next_above is =
    let e = 2 ^ 64 - r * d in
    let whole : r * d + e ≡ 2 ^ 64 = omega arith in
    let less : e ≤ 2 * d = omega arith in
    let some : 0 < d = omega arith in
    let rest = small_rest z d e small less in
    let parts = by_reciprocal z r d e whole in
    let within : (g *ℤ pos (2 ^ 64)) ≤ℤ (z *ℤ pos r) = rw is (floor_div-multiple_within (z *ℤ pos r) (2 ^ 64) (omega arith)) in
    let above : (z *ℤ pos r) <ℤ ((g +ℤ pos 1) *ℤ pos (2 ^ 64)) = rw is (floor_div-next_multiple_above (z *ℤ pos r) (2 ^ 64) (omega arith)) in
    let within_d = *ℤ-≤ (pos d) (g *ℤ pos (2 ^ 64)) (z *ℤ pos r) (omega (arith, ints)) within in
    let above_d = *ℤ-< (pos d) (z *ℤ pos r) ((g +ℤ pos 1) *ℤ pos (2 ^ 64)) (omega (arith, ints)) above in
    let least = exchanged g (pos (2 ^ 64)) (pos d) in
    let most = exchanged (g +ℤ pos 1) (pos (2 ^ 64)) (pos d) in
    let next = +ℤ-*ℤ g (pos 1) (pos d) in
    (omega (arith, ints, within_d, parts, rest, least), omega (arith, ints, above_d, parts, rest, most, next))

-- ---- two products between which the quotient lies
at_most_quotient : (z g y : ℤ) (d : ℕ) → 0 < d → (g *ℤ pos (2 ^ 64)) ≤ℤ y → (y *ℤ pos d) ≤ℤ (z *ℤ pos (2 ^ 64)) → (g *ℤ pos d) ≤ℤ z
at_most_quotient z g y d some low less =
    let low_d = *ℤ-≤ (pos d) (g *ℤ pos (2 ^ 64)) y (omega (arith, ints)) low in
    omega (arith, ints, low_d, less, exchanged g (pos (2 ^ 64)) (pos d))

above_quotient : (z g y : ℤ) (d : ℕ) → 0 < d → y <ℤ ((g +ℤ pos 1) *ℤ pos (2 ^ 64)) → (z *ℤ pos (2 ^ 64)) ≤ℤ (y *ℤ pos d) → z <ℤ ((g +ℤ pos 1) *ℤ pos d)
above_quotient z g y d some high more =
    let high_d = *ℤ-< (pos d) y ((g +ℤ pos 1) *ℤ pos (2 ^ 64)) (omega (arith, ints, some)) high in
    omega (arith, ints, high_d, more, exchanged (g +ℤ pos 1) (pos (2 ^ 64)) (pos d))

-- z times 2^64, by a number r whose product with d is e more
by_greater : (z : ℤ) (r d e : ℕ) → r * d ≡ 2 ^ 64 + e → (z *ℤ pos r) *ℤ pos d ≡ z *ℤ pos (2 ^ 64) +ℤ z *ℤ pos e
by_greater z r d e whole = *ℤ_assoc z (pos r) (pos d) ∙ ap (λ n. z *ℤ pos n) whole ∙ *ℤ-+ℤ z (pos (2 ^ 64)) (pos e)

below_zero : (n e : ℕ) → (negsuc n *ℤ pos e) ≤ℤ pos 0
below_zero n e =
    let opposite = -ℤ-*ℤ (pos 0) (negsuc n) (pos e) in
    let none : pos 0 *ℤ pos e ≡ pos 0 = omega (arith, ints) in
    omega (arith, ints, opposite, none, *ℤ-nonnegative (pos 0 -ℤ negsuc n) (pos e) (omega (arith, ints)) (omega (arith, ints)))

between : (z g : ℤ) (r d : ℕ) → 0 < d → r * d < 2 ^ 64 → 2 ^ 64 ≤ (r + 2) * d → g ≡ floor_div (z *ℤ pos r) (2 ^ 64) → g ≡ floor_div (z *ℤ pos (r + 2)) (2 ^ 64)
    → ((g *ℤ pos d) ≤ℤ z) × (z <ℤ ((g +ℤ pos 1) *ℤ pos d))
between (pos n) g r d some below next_above first second =
    let e = 2 ^ 64 - r * d in
    let f = (r + 2) * d - 2 ^ 64 in
    let less = by_reciprocal (pos n) r d e (omega arith) in
    let more = by_greater (pos n) (r + 2) d f (omega arith) in
    let from : (g *ℤ pos (2 ^ 64)) ≤ℤ (pos n *ℤ pos r) = rw first (floor_div-multiple_within (pos n *ℤ pos r) (2 ^ 64) (omega arith)) in
    let to : (pos n *ℤ pos (r + 2)) <ℤ ((g +ℤ pos 1) *ℤ pos (2 ^ 64)) = rw second (floor_div-next_multiple_above (pos n *ℤ pos (r + 2)) (2 ^ 64) (omega arith)) in
    let left = *ℤ-nonnegative (pos n) (pos e) (omega (arith, ints)) (omega (arith, ints)) in
    let over = *ℤ-nonnegative (pos n) (pos f) (omega (arith, ints)) (omega (arith, ints)) in (
      at_most_quotient (pos n) g (pos n *ℤ pos r) d some from (omega (arith, ints, less, left)),
      above_quotient (pos n) g (pos n *ℤ pos (r + 2)) d some to (omega (arith, ints, more, over)),
    )
between (negsuc n) g r d some below next_above first second =
    let e = 2 ^ 64 - r * d in
    let f = (r + 2) * d - 2 ^ 64 in
    let less = by_reciprocal (negsuc n) r d e (omega arith) in
    let more = by_greater (negsuc n) (r + 2) d f (omega arith) in
    let from : (g *ℤ pos (2 ^ 64)) ≤ℤ (negsuc n *ℤ pos (r + 2)) = rw second (floor_div-multiple_within (negsuc n *ℤ pos (r + 2)) (2 ^ 64) (omega arith)) in
    let to : (negsuc n *ℤ pos r) <ℤ ((g +ℤ pos 1) *ℤ pos (2 ^ 64)) = rw first (floor_div-next_multiple_above (negsuc n *ℤ pos r) (2 ^ 64) (omega arith)) in
    let left = below_zero n e in
    let over = below_zero n f in (
      at_most_quotient (negsuc n) g (negsuc n *ℤ pos (r + 2)) d some from (omega (arith, ints, more, over)),
      above_quotient (negsuc n) g (negsuc n *ℤ pos r) d some to (omega (arith, ints, less, left)),
    )

-- twice z times a number that isn't below 0
doubled_product : (z i : ℤ) → pos 0 ≤ℤ i → (pos 2 *ℤ z) *ℤ i ≡ z *ℤ pos (2 * unsigned_abs i)
doubled_product z (pos n) some = ap (λ y. y *ℤ pos n) (*ℤ_comm (pos 2) z) ∙ *ℤ_assoc z (pos 2) (pos n)
doubled_product z (negsuc n) some = absurd (omega (arith, ints, some))

-- where both have the same whole part it is the quotient's
pub quotient_between : (z g product next divisor i : ℤ) → pos 0 <ℤ divisor → pos 0 ≤ℤ i → 2 * unsigned_abs i * unsigned_abs divisor < 2 ^ 64
    → 2 ^ 64 ≤ (2 * unsigned_abs i + 2) * unsigned_abs divisor → product ≡ (pos 2 *ℤ z) *ℤ i → next ≡ product +ℤ pos 2 *ℤ z
    → g ≡ floor_div product (2 ^ 64) → g ≡ floor_div next (2 ^ 64)
    → g ≡ floor_div z (unsigned_abs divisor)
quotient_between z g product next (pos d) i some from below next_above is further first second =
    let r = 2 * unsigned_abs i in
    let by_r : product ≡ z *ℤ pos r = is ∙ doubled_product z i from in
    let whole : next ≡ z *ℤ pos (r + 2) = omega (arith, ints, by_r, further, *ℤ-+ℤ z (pos r) (pos 2)) in
    let parts = between z g r d (omega (arith, ints, some)) below next_above (rw by_r at first) (rw whole at second) in
    sym (floor_div-unique z g d (omega (arith, ints, some)) parts.0 parts.1)
quotient_between z g product next (negsuc d) i some from below next_above is further first second = absurd (omega (arith, ints, some))

-- the guess by the product is near
pub guess_is_near : (z g product divisor i : ℤ) → pos 0 <ℤ divisor → pos 0 ≤ℤ i → unsigned_abs z ≤ 2 ^ 61 → 2 * unsigned_abs i * unsigned_abs divisor < 2 ^ 64
    → 2 ^ 64 ≤ (2 * unsigned_abs i + 2) * unsigned_abs divisor → product ≡ (pos 2 *ℤ z) *ℤ i → g ≡ floor_div product (2 ^ 64)
    → ((g *ℤ divisor) ≤ℤ (z +ℤ divisor)) × (z <ℤ (g *ℤ divisor +ℤ divisor +ℤ divisor))
guess_is_near z g product (pos d) i some from small below next_above is first =
    not_far z g (2 * unsigned_abs i) d small below next_above (rw (is ∙ doubled_product z i from) at first)
guess_is_near z g product (negsuc d) i some from small below next_above is first = absurd (omega (arith, ints, some))

-- a quotient is no larger than what is divided
pub floor_div-bound : (z : ℤ) (d : ℕ) → unsigned_abs (floor_div z d) ≤ unsigned_abs z
floor_div-bound (pos n) d = div-le_self n d
floor_div-bound (negsuc n) d = omega (arith, div-le_self n d)

pub rounded_lower : (z guess divisor rest : ℤ) → rest ≡ z -ℤ guess *ℤ divisor → pos 0 <ℤ divisor → (guess *ℤ divisor) ≤ℤ (z +ℤ divisor) → rest <ℤ pos 0
    → floor_div z (unsigned_abs divisor) ≡ guess -ℤ pos 1
rounded_lower z guess (pos d) rest is some not_above low =
    let less = -ℤ-*ℤ guess (pos 1) (pos d) in
    let next : guess -ℤ pos 1 +ℤ pos 1 ≡ guess = omega (arith, ints) in
    floor_div-unique z (guess -ℤ pos 1) d (omega (arith, ints, some)) (omega (arith, ints, less)) (rw next (omega (arith, ints)))
rounded_lower z guess (negsuc d) rest is some not_above low = absurd (omega (arith, ints, some))

pub rounded_higher : (z guess divisor rest : ℤ) → rest ≡ z -ℤ guess *ℤ divisor → pos 0 <ℤ divisor → z <ℤ (guess *ℤ divisor +ℤ divisor +ℤ divisor) → divisor ≤ℤ rest
    → floor_div z (unsigned_abs divisor) ≡ guess +ℤ pos 1
rounded_higher z guess (pos d) rest is some not_below high =
    let more = +ℤ-*ℤ guess (pos 1) (pos d) in
    let next = +ℤ-*ℤ (guess +ℤ pos 1) (pos 1) (pos d) in
    floor_div-unique z (guess +ℤ pos 1) d (omega (arith, ints, some)) (omega (arith, ints, more)) (omega (arith, ints, more, next))
rounded_higher z guess (negsuc d) rest is some not_below high = absurd (omega (arith, ints, some))

pub rounded_right : (z guess divisor rest : ℤ) → rest ≡ z -ℤ guess *ℤ divisor → pos 0 <ℤ divisor → pos 0 ≤ℤ rest → rest <ℤ divisor
    → floor_div z (unsigned_abs divisor) ≡ guess
rounded_right z guess (pos d) rest is some low high =
    let more = +ℤ-*ℤ guess (pos 1) (pos d) in
    floor_div-unique z guess d (omega (arith, ints, some)) (omega (arith, ints)) (omega (arith, ints, more))
rounded_right z guess (negsuc d) rest is some low high = absurd (omega (arith, ints, some))

-- what a quotient that is rounded down leaves
pub remains : (z quotient divisor : ℤ) → pos 0 <ℤ divisor → quotient ≡ floor_div z (unsigned_abs divisor)
    → ((quotient *ℤ divisor) ≤ℤ z) × (z <ℤ (quotient *ℤ divisor +ℤ divisor))
remains z quotient (pos d) some is =
    let within = floor_div-multiple_within z d (omega (arith, ints, some)) in
    let above = floor_div-next_multiple_above z d (omega (arith, ints, some)) in
    rw is (within, omega (arith, ints, above, +ℤ-*ℤ (floor_div z d) (pos 1) (pos d)))
remains z quotient (negsuc d) some is = absurd (omega (arith, ints, some))
