-- Floor division: what it is, the order, and other ways to compute it.
use Rattle.std.proofs.Common.{◌≡◌, ℕ, ◌<◌, ap, refl, ◌∙◌, arith}
use Rattle.std.specs.Prelude.{ℤ, pos, negsuc, ◌+ℤ◌, ◌*ℤ◌, ◌≤ℤ◌, ◌<ℤ◌}
use Rattle.std.specs.Int.{int_div_euclid, int_shr}
use Rattle.std.proofs.lemmas.Int.{ints}
use Rattle.std.proofs.Math.IntN.{*ℤ_comm}
use Rattle.fx_arith.specs.Number.{floor_div, floor_quotient}
use Rattle.fx_arith.proofs.Products.{*ℤ-cancel_<, +ℤ-*ℤ}

-- the quotient's multiple is at most z
pub floor_div-multiple_within : (z : ℤ) (d : ℕ) → 0 < d → (floor_div z d *ℤ pos d) ≤ℤ z
floor_div-multiple_within (pos n) d p = omega (arith, ints)
floor_div-multiple_within (negsuc n) d p = omega (arith, ints)

-- the next multiple is above z
pub floor_div-next_multiple_above : (z : ℤ) (d : ℕ) → 0 < d → z <ℤ ((floor_div z d +ℤ pos 1) *ℤ pos d)
floor_div-next_multiple_above (pos n) d p = omega (arith, ints, +ℤ-*ℤ (floor_div (pos n) d) (pos 1) (pos d))
floor_div-next_multiple_above (negsuc n) d p = omega (arith, ints, +ℤ-*ℤ (floor_div (negsuc n) d) (pos 1) (pos d))

-- a number whose multiple is at most z is at most the quotient
pub ≤-floor_div : (q z : ℤ) (d : ℕ) → 0 < d → (q *ℤ pos d) ≤ℤ z → q ≤ℤ floor_div z d
≤-floor_div q z d p h =
    let above = floor_div-next_multiple_above z d p in
    let below : q <ℤ (floor_div z d +ℤ pos 1) =
    *ℤ-cancel_< (pos d) q (floor_div z d +ℤ pos 1) (omega (arith, ints))
    (omega (arith, ints, above, *ℤ_comm (pos d) q, *ℤ_comm (pos d) (floor_div z d +ℤ pos 1))) in
    omega (arith, ints)

-- a number whose multiple is above z is above the quotient
pub floor_div-< : (z q : ℤ) (d : ℕ) → 0 < d → z <ℤ (q *ℤ pos d) → floor_div z d <ℤ q
floor_div-< z q d p h =
    let within = floor_div-multiple_within z d p in
    *ℤ-cancel_< (pos d) (floor_div z d) q (omega (arith, ints))
    (omega (arith, ints, within, *ℤ_comm (pos d) (floor_div z d), *ℤ_comm (pos d) q))

-- these two bounds have one quotient
pub floor_div-unique : (z q : ℤ) (d : ℕ) → 0 < d → (q *ℤ pos d) ≤ℤ z → z <ℤ ((q +ℤ pos 1) *ℤ pos d) → floor_div z d ≡ q
floor_div-unique z q d p within above =
    omega (arith, ints, ≤-floor_div q z d p within, floor_div-< z (q +ℤ pos 1) d p above)

-- a greater number has no smaller quotient
pub floor_div-≤ : (y z : ℤ) (d : ℕ) → 0 < d → y ≤ℤ z → floor_div y d ≤ℤ floor_div z d
floor_div-≤ y z d p h = ≤-floor_div (floor_div y d) z d p (omega (arith, ints, floor_div-multiple_within y d p))

-- a multiple of the divisor goes out of the quotient
pub floor_div-+ℤ-multiple : (z q : ℤ) (d : ℕ) → 0 < d → floor_div (z +ℤ q *ℤ pos d) d ≡ floor_div z d +ℤ q
floor_div-+ℤ-multiple z q d p =
    let within = floor_div-multiple_within z d p in
    let above = floor_div-next_multiple_above z d p in
    floor_div-unique (z +ℤ q *ℤ pos d) (floor_div z d +ℤ q) d p
    (omega (arith, ints, within, +ℤ-*ℤ (floor_div z d) q (pos d)))
    (omega (arith, ints, above, +ℤ-*ℤ (floor_div z d) q (pos d), +ℤ-*ℤ (floor_div z d) (pos 1) (pos d), +ℤ-*ℤ (floor_div z d +ℤ q) (pos 1) (pos d)))

-- a multiple is divided exactly
pub floor_div-multiple : (q : ℤ) (d : ℕ) → 0 < d → floor_div (q *ℤ pos d) d ≡ q
floor_div-multiple q d p =
    floor_div-unique (q *ℤ pos d) q d p (omega (arith, ints)) (omega (arith, ints, +ℤ-*ℤ q (pos 1) (pos d)))

-- `div_euclid` by a positive divisor rounds down
pub int_div_euclid-pos : (z : ℤ) (d : ℕ) → int_div_euclid z (pos d) ≡ floor_div z d
int_div_euclid-pos (pos n) d = refl
int_div_euclid-pos (negsuc n) d = refl

-- `>> 16` rounds down
pub int_shr-16 : (z : ℤ) → int_shr z 16 ≡ floor_div z 65536
int_shr-16 (pos n) = refl
int_shr-16 (negsuc n) = refl

-- a quotient by a whole number that is above 0 is one by a natural number
pub floor_div-floor_quotient : (y z w : ℤ) (d : ℕ) → y ≡ z → pos d ≡ w → floor_div y d ≡ floor_quotient z w
floor_div-floor_quotient y z w d same divisor = ap (λ a. floor_div a d) same ∙ ap (floor_quotient z) divisor
