-- The fog factor by the corners' shares.
use Rattle.std.specs.Prelude.{ℤ, pos, negsuc, ◌+ℤ◌, ◌<ℤ◌, ◌≡◌, Bool, true, false, int_lt, if◌then◌else◌, unsigned_abs}
use Rattle.std.proofs.Common.{ap, arith, refl, sym, ◌∙◌}
use Rattle.std.proofs.lemmas.Int.{ints}
use Rattle.fx_arith.specs.Number.{c8, clamp, floor_div, floor_quotient, nearest_fixed, one}
use Rattle.gl_records.specs.declared.prim.Primitive.{Primitive}
use Rattle.gl_records.specs.Coverage.{corner}
use Rattle.gl_records.specs.FogColor.{fog_byte}
use Rattle.gl_records.specs.Interpolation.{interpolated}
use Rattle.interpolation.specs.declared.shares.Shares.{Shares}
use Rattle.interpolation.specs.Shares.{ArePositive, AreShares, shared}
use Rattle.interpolation.proofs.Sums.{total-is, weighted_sum-is}

by_tests : (z : ℤ) (low high : Bool) → int_lt z (negsuc 2147483647) ≡ low → int_lt (pos 2147483647) z ≡ high
    → clamp (pos 0) one (if low then negsuc 2147483647 else if high then pos 2147483647 else z) ≡ clamp (pos 0) one z
by_tests z true high e f =
    let low : z <ℤ negsuc 2147483647 = omega (arith, ints, e) in
    let under : true ≡ int_lt z (pos 0) = omega (arith, ints) in
    rw (sym under)
by_tests z false true e f =
    let high : pos 2147483647 <ℤ z = omega (arith, ints, f) in
    let under : false ≡ int_lt z (pos 0) = omega (arith, ints) in
    let over : true ≡ int_lt (pos 65536) z = omega (arith, ints) in
    rw (sym under, sym over)
by_tests z false false e f = refl

-- a colour component that saturates has the same byte
pub c8-nearest : (z : ℤ) → c8 (nearest_fixed z) ≡ c8 z
c8-nearest z =
    rw (by_tests z (int_lt z (negsuc 2147483647)) (int_lt (pos 2147483647) z) refl refl)

pub quotient-positive : (z d : ℤ) → pos 0 <ℤ d → floor_quotient z d ≡ floor_div z (unsigned_abs d)
quotient-positive z (pos d) h = refl
quotient-positive z (negsuc d) h = absurd (omega (arith, ints))

pub fog-is : (shares : Shares) (p : Primitive) (x y sum total quotient nearest : ℤ) → ArePositive shares → AreShares shares p x y
    → sum ≡ shared shares (corner p 0).fog (corner p 1).fog (corner p 2).fog
    → total ≡ shares.first +ℤ shares.second +ℤ shares.third
    → quotient ≡ floor_quotient sum total → nearest ≡ nearest_fixed quotient → c8 nearest ≡ fog_byte p x y
unfolding fog_byte interpolated
fog-is shares p x y sum total quotient nearest positive h sum_is total_told quotient_is nearest_is =
    let mean : quotient ≡ floor_div sum (unsigned_abs total) =
    quotient_is ∙ quotient-positive sum total (rw total_told positive.some) in
    let byte : c8 nearest ≡ c8 (floor_div sum (unsigned_abs total)) = ap (λ z. c8 z) nearest_is ∙ c8-nearest quotient ∙ ap (λ z. c8 z) mean in
    rw (weighted_sum-is shares p (λ v. v.fog) x y h, total-is shares p x y h, ← sum_is, ← total_told) byte
