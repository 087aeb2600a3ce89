-- The values of a primitive at a pixel by sums without the factor that all q have.
use Rattle.std.specs.Prelude.{ℕ, ℤ, pos, negsuc, ◌*◌, ◌<◌, ◌≤◌, ◌≤ℤ◌, ◌<ℤ◌, ◌+ℤ◌, ◌*ℤ◌, ◌≡◌, true, IsTrue, int_lt, slice_index, unsigned_abs}
use Rattle.std.proofs.Common.{ap, arith, refl, sym, ◌∙◌}
use Rattle.std.proofs.lemmas.Int.{ints}
use Rattle.coverage.proofs.Differences.{var, number, plus, times, same}
use Rattle.coverage.proofs.WeightLemmas.{AreWeights-covered}
use Rattle.fx_arith.specs.declared.fx.Fx.{Fx}
use Rattle.fx_arith.specs.Number.{c8, div, floor_div, nearest_fixed}
use Rattle.fx_arith.proofs.Floors.{floor_div-≤, floor_div-multiple}
use Rattle.fx_arith.proofs.Products.{*ℤ_assoc, *ℤ-≤, *ℤ-nonnegative, *ℤ-positive}
use Rattle.gl_records.specs.declared.prim.Primitive.{Primitive}
use Rattle.gl_records.specs.declared.prim.VertexOut.{VertexOut}
use Rattle.gl_records.specs.Coverage.{corner, covers}
use Rattle.gl_records.specs.FogColor.{fog_byte}
use Rattle.gl_records.specs.Interpolation.{interpolated}
use Rattle.gl_records.specs.TextureCoordinate.{coordinate, coordinate_sum, corner_coordinate, has_coordinates}
use Rattle.gl_records.specs.Valid.{IsInRange}
use Rattle.gl_records.specs.Weights.{AreWeights, weight, weighted_sum}
use Rattle.interpolation.specs.Coordinates.{AreCoordinates}
use Rattle.interpolation.specs.Factors.{common_q, factor, scaled_sum, scaled_total}
use Rattle.interpolation.specs.TileValues.{IsSameOf}
use Rattle.interpolation.proofs.Factors.{common_q-positive, floor_div-scaled, weighted_sum-scaled}
use Rattle.interpolation.proofs.Fogs.{c8-nearest, quotient-positive}

times_one : (q : ℤ) → q ≡ q *ℤ pos 1
times_one q = omega (arith, ints)

total-scaled : (p : Primitive) (x y : ℤ) → weighted_sum p (λ v. pos v.q) x y ≡ pos (common_q p) *ℤ scaled_total p x y
unfolding weighted_sum
total-scaled p x y =
    rw (times_one (pos (corner p 0).q), times_one (pos (corner p 1).q), times_one (pos (corner p 2).q))
    (weighted_sum-scaled p (λ v. pos 1) x y)

abs_scaled : (q : ℕ) (d : ℤ) → pos 0 <ℤ d → unsigned_abs (pos q *ℤ d) ≡ q * unsigned_abs d
abs_scaled q (pos d) h = refl
abs_scaled q (negsuc d) h = absurd (omega (arith, ints))

above : (d : ℤ) → pos 0 <ℤ d → 0 < unsigned_abs d
above d h = omega (arith, ints)

-- a value of the corners
pub interpolated-scaled : (p : Primitive) (value : VertexOut → ℤ) (x y : ℤ) → IsInRange p → pos 0 <ℤ scaled_total p x y
    → interpolated p value x y ≡ floor_div (scaled_sum p value x y) (unsigned_abs (scaled_total p x y))
unfolding interpolated
interpolated-scaled p value x y range positive =
    rw (weighted_sum-scaled p value x y, total-scaled p x y, abs_scaled (common_q p) (scaled_total p x y) positive)
    (floor_div-scaled (common_q p) (scaled_sum p value x y) (unsigned_abs (scaled_total p x y)) (common_q-positive p range) (above _ positive))

term_between : (w : ℤ) (f a : ℕ) → pos 0 ≤ℤ w → a ≤ 255 → (pos 0 ≤ℤ (w *ℤ (pos f *ℤ pos a))) × ((w *ℤ (pos f *ℤ pos a)) ≤ℤ (pos 255 *ℤ (w *ℤ (pos f *ℤ pos 1))))
term_between w f a h byte =
    let s = w *ℤ pos f in
    let some = *ℤ-nonnegative w (pos f) h (omega (arith, ints)) in
    let low = *ℤ-nonnegative s (pos a) some (omega (arith, ints)) in
    let high = *ℤ-≤ s (pos a) (pos 255) some (omega (arith, ints)) in
    rw (← *ℤ_assoc w (pos f) (pos a), ← *ℤ_assoc w (pos f) (pos 1)) (low, omega (arith, ints, high))

sum_between : (e f g i j k : ℤ) → (pos 0 ≤ℤ e) × (e ≤ℤ (pos 255 *ℤ i)) → (pos 0 ≤ℤ f) × (f ≤ℤ (pos 255 *ℤ j)) → (pos 0 ≤ℤ g) × (g ≤ℤ (pos 255 *ℤ k))
    → (pos 0 ≤ℤ (e +ℤ f +ℤ g)) × ((e +ℤ f +ℤ g) ≤ℤ ((i +ℤ j +ℤ k) *ℤ pos 255))
sum_between e f g i j k h l m = (omega (arith, ints, h.0, l.0, m.0), omega (arith, ints, h.1, l.1, m.1))

bytes_between : (p : Primitive) (k : ℕ) (x y : ℤ) → AreWeights (weight p 0 x y) (weight p 1 x y) (weight p 2 x y)
    → slice_index (corner p 0).rgba k ≤ 255 → slice_index (corner p 1).rgba k ≤ 255 → slice_index (corner p 2).rgba k ≤ 255
    → (pos 0 ≤ℤ scaled_sum p (λ v. pos (slice_index v.rgba k)) x y) × (scaled_sum p (λ v. pos (slice_index v.rgba k)) x y ≤ℤ (scaled_total p x y *ℤ pos 255))
unfolding scaled_sum weighted_sum
bytes_between p k x y weights first second third =
    let part : ℕ → ℤ → ℤ = λ n a. weight p n x y *ℤ (pos (factor p (corner p n)) *ℤ a) in
    sum_between
    (part 0 (pos (slice_index (corner p 0).rgba k))) (part 1 (pos (slice_index (corner p 1).rgba k))) (part 2 (pos (slice_index (corner p 2).rgba k)))
    (part 0 (pos 1)) (part 1 (pos 1)) (part 2 (pos 1))
    (term_between (weight p 0 x y) (factor p (corner p 0)) (slice_index (corner p 0).rgba k) weights.first_from first)
    (term_between (weight p 1 x y) (factor p (corner p 1)) (slice_index (corner p 1).rgba k) weights.second_from second)
    (term_between (weight p 2 x y) (factor p (corner p 2)) (slice_index (corner p 2).rgba k) weights.third_from third)

turned : (d z : ℤ) → pos 0 <ℤ d → z *ℤ pos (unsigned_abs d) ≡ d *ℤ z
turned (pos n) z h = same (times (var z) (number n)) (times (number n) (var z)) (omega arith)
turned (negsuc n) z h = absurd (omega (arith, ints))

byte_quotient : (n d : ℤ) → pos 0 <ℤ d → (pos 0 ≤ℤ n) × (n ≤ℤ (d *ℤ pos 255))
    → (pos 0 ≤ℤ floor_div n (unsigned_abs d)) × (floor_div n (unsigned_abs d) ≤ℤ pos 255)
byte_quotient n d positive within =
    let some = above d positive in
    let low : floor_div (pos 0 *ℤ pos (unsigned_abs d)) (unsigned_abs d) ≤ℤ floor_div n (unsigned_abs d) = floor_div-≤ (pos 0 *ℤ pos (unsigned_abs d)) n (unsigned_abs d) some (omega (arith, ints, within.0)) in
    let high : floor_div n (unsigned_abs d) ≤ℤ floor_div (pos 255 *ℤ pos (unsigned_abs d)) (unsigned_abs d) = floor_div-≤ n (pos 255 *ℤ pos (unsigned_abs d)) (unsigned_abs d) some (rw (turned d (pos 255) positive) within.1) in
    (rw (floor_div-multiple (pos 0) (unsigned_abs d) some) at low, rw (floor_div-multiple (pos 255) (unsigned_abs d) some) at high)

-- a component of the colour is a byte
pub component-scaled : (p : Primitive) (k : ℕ) (x y : ℤ) → IsInRange p → pos 0 <ℤ scaled_total p x y → IsTrue (covers p x y)
    → slice_index (corner p 0).rgba k ≤ 255 → slice_index (corner p 1).rgba k ≤ 255 → slice_index (corner p 2).rgba k ≤ 255
    → (pos 0 ≤ℤ floor_div (scaled_sum p (λ v. pos (slice_index v.rgba k)) x y) (unsigned_abs (scaled_total p x y)))
    × (floor_div (scaled_sum p (λ v. pos (slice_index v.rgba k)) x y) (unsigned_abs (scaled_total p x y)) ≤ℤ pos 255)
component-scaled p k x y range positive covered first second third =
    byte_quotient _ _ positive (bytes_between p k x y (AreWeights-covered p x y range covered) first second third)

-- the fog factor
pub fog-scaled : (p : Primitive) (x y quotient nearest : ℤ) → IsInRange p → pos 0 <ℤ scaled_total p x y
    → quotient ≡ floor_div (scaled_sum p (λ v. v.fog) x y) (unsigned_abs (scaled_total p x y))
    → nearest ≡ nearest_fixed quotient → c8 nearest ≡ fog_byte p x y
unfolding fog_byte
fog-scaled p x y quotient nearest range positive is nearest_is =
    rw (interpolated-scaled p (λ v. v.fog) x y range positive, ← is, nearest_is) (c8-nearest quotient)

same_sum : (u v w f g h n : ℤ) → (u *ℤ (f *ℤ n)) +ℤ (v *ℤ (g *ℤ n)) +ℤ (w *ℤ (h *ℤ n))
    ≡ n *ℤ ((u *ℤ (f *ℤ pos 1)) +ℤ (v *ℤ (g *ℤ pos 1)) +ℤ (w *ℤ (h *ℤ pos 1)))
same_sum u v w f g h n =
    let a = var u in let b = var v in let c = var w in let i = var f in let j = var g in let k = var h in let z = var n in
    same
    (plus (plus (times a (times i z)) (times b (times j z))) (times c (times k z)))
    (times z (plus (plus (times a (times i (number 1))) (times b (times j (number 1)))) (times c (times k (number 1)))))
    (omega arith)

-- the sum of a value that the corners all have
sum-same : (p : Primitive) (value : VertexOut → ℤ) (n : ℤ) (x y : ℤ) → IsSameOf p value n → scaled_sum p value x y ≡ n *ℤ scaled_total p x y
unfolding scaled_sum weighted_sum
sum-same p value n x y are =
    rw (are.first, are.second, are.third)
    (same_sum (weight p 0 x y) (weight p 1 x y) (weight p 2 x y) (pos (factor p (corner p 0))) (pos (factor p (corner p 1))) (pos (factor p (corner p 2))) n)

-- a multiple of a number above 0, divided by it
pub over_itself : (d n : ℤ) → pos 0 <ℤ d → floor_div (n *ℤ d) (unsigned_abs d) ≡ n
over_itself (pos m) n positive = floor_div-multiple n m (omega (arith, ints, positive))
over_itself (negsuc m) n positive = absurd (omega (arith, ints))

-- such a value is what each pixel has
pub value-same : (p : Primitive) (value : VertexOut → ℤ) (n : ℤ) (x y : ℤ) → IsSameOf p value n → pos 0 <ℤ scaled_total p x y
    → n ≡ floor_div (scaled_sum p value x y) (unsigned_abs (scaled_total p x y))
value-same p value n x y are positive = sym (rw (sum-same p value n x y are) (over_itself (scaled_total p x y) n positive))

sum-scaled : (p : Primitive) (unit k : ℕ) (x y : ℤ) → coordinate_sum p unit k x y ≡ pos (common_q p) *ℤ scaled_sum p (corner_coordinate unit k) x y
unfolding coordinate_sum
sum-scaled p unit k x y = weighted_sum-scaled p (corner_coordinate unit k) x y

ratio-scaled : (q : ℕ) (n d : ℤ) → 1 ≤ q → pos 0 <ℤ d → div (pos q *ℤ n) (pos q *ℤ (pos 65536 *ℤ d)) ≡ nearest_fixed (floor_div n (unsigned_abs d))
ratio-scaled q n (pos m) some positive =
    let all : pos 65536 *ℤ (pos q *ℤ n) ≡ pos (q * 65536) *ℤ n =
    same (times (number 65536) (times (number q) (var n))) (times (number (q * 65536)) (var n)) (omega arith) in
    let below : q * (65536 * m) ≡ q * 65536 * m = omega arith in
    let high = *ℤ-positive (pos q) (pos 65536 *ℤ pos m) (omega (arith, ints)) (omega (arith, ints)) in
    let factors : 1 ≤ q * 65536 = omega arith in
    let same_quotient : floor_div (pos 65536 *ℤ (pos q *ℤ n)) (q * (65536 * m)) ≡ floor_div n m = rw (all, below) (floor_div-scaled (q * 65536) n m factors (omega (arith, ints))) in
    ap (λ z. nearest_fixed z) (quotient-positive (pos 65536 *ℤ (pos q *ℤ n)) (pos q *ℤ (pos 65536 *ℤ pos m)) high ∙ same_quotient)
ratio-scaled q n (negsuc m) some positive = absurd (omega (arith, ints))

positive-scaled : (q : ℕ) (d : ℤ) → 1 ≤ q → pos 0 <ℤ d → true ≡ int_lt (pos 0) (pos q *ℤ (pos 65536 *ℤ d))
positive-scaled q d some positive =
    let high = *ℤ-positive (pos q) (pos 65536 *ℤ d) (omega (arith, ints)) (omega (arith, ints)) in
    omega (arith, ints, high)

-- the coordinates of a unit
pub coordinates-scaled : (p : Primitive) (unit : ℕ) (x y : ℤ) (s t : Fx) → IsInRange p → pos 0 <ℤ scaled_total p x y
    → corner_coordinate unit 2 (corner p 0) ≡ pos 65536 → corner_coordinate unit 2 (corner p 1) ≡ pos 65536 → corner_coordinate unit 2 (corner p 2) ≡ pos 65536
    → s.0 ≡ nearest_fixed (floor_div (scaled_sum p (corner_coordinate unit 0) x y) (unsigned_abs (scaled_total p x y)))
    → t.0 ≡ nearest_fixed (floor_div (scaled_sum p (corner_coordinate unit 1) x y) (unsigned_abs (scaled_total p x y)))
    → AreCoordinates (record { s = s; t = t; known = true }) p unit x y
unfolding coordinate
coordinates-scaled p unit x y s t range positive first second third s_is t_is =
    let some = common_q-positive p range in
    let below : coordinate_sum p unit 2 x y ≡ pos (common_q p) *ℤ (pos 65536 *ℤ scaled_total p x y) =
    sum-scaled p unit 2 x y ∙ ap (λ z. pos (common_q p) *ℤ z)
    (sum-same p (corner_coordinate unit 2) (pos 65536) x y (record { first = first; second = second; third = third })) in
    let there : true ≡ has_coordinates p unit x y = rw below (positive-scaled (common_q p) (scaled_total p x y) some positive) in
    record {
      s = rw (← there, sum-scaled p unit 0 x y, below) (s_is ∙ sym (ratio-scaled (common_q p) (scaled_sum p (corner_coordinate unit 0) x y) (scaled_total p x y) some positive));
      t = rw (← there, sum-scaled p unit 1 x y, below) (t_is ∙ sym (ratio-scaled (common_q p) (scaled_sum p (corner_coordinate unit 1) x y) (scaled_total p x y) some positive));
      known = there;
    }
