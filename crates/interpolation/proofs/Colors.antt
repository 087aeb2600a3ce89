-- The colour of a primitive whose corners have the same one.
use Rattle.std.specs.Prelude.{◌≡◌, ℕ, ℤ, pos, negsuc, ◌+◌, ◌*◌, ◌/◌, ◌<◌, ◌≤◌, ◌+ℤ◌, ◌*ℤ◌, ◌≤ℤ◌, [], ◌∷◌, IsTrue, slice_index, unsigned_abs}
use Rattle.std.proofs.Common.{sym, arith}
use Rattle.std.proofs.lemmas.Int.{ints}
use Rattle.std.proofs.lemmas.Nat.{mul-le}
use Rattle.std.proofs.Math.Nat.{mul_assoc, mul-div_cancel}
use Rattle.coverage.proofs.WeightLemmas.{AreWeights-covered}
use Rattle.fx_arith.specs.Number.{floor_div}
use Rattle.gl_records.specs.declared.prim.Primitive.{Primitive}
use Rattle.gl_records.specs.Coverage.{corner, covers}
use Rattle.gl_records.specs.Interpolation.{component, interpolated, interpolated_color}
use Rattle.gl_records.specs.Valid.{IsInRange}
use Rattle.gl_records.specs.Weights.{AreWeights, weight, weighted_sum}
use Rattle.interpolation.specs.Mean.{weighted_mean}

mean_of : (u v w : ℤ) (q r s a b c : ℕ) → pos 0 ≤ℤ u → pos 0 ≤ℤ v → pos 0 ≤ℤ w
    → unsigned_abs (floor_div ((u *ℤ (pos q *ℤ pos a)) +ℤ (v *ℤ (pos r *ℤ pos b)) +ℤ (w *ℤ (pos s *ℤ pos c))) (unsigned_abs ((u *ℤ pos q) +ℤ (v *ℤ pos r) +ℤ (w *ℤ pos s))))
    ≡ (unsigned_abs u * q * a + unsigned_abs v * r * b + unsigned_abs w * s * c) / (unsigned_abs u * q + unsigned_abs v * r + unsigned_abs w * s)
mean_of (pos e) (pos f) (pos g) q r s a b c h i j = rw (mul_assoc e q a, mul_assoc f r b, mul_assoc g s c)
mean_of (negsuc e) v w q r s a b c h i j = absurd (omega (arith, ints))
mean_of (pos e) (negsuc f) w q r s a b c h i j = absurd (omega (arith, ints))
mean_of (pos e) (pos f) (negsuc g) q r s a b c h i j = absurd (omega (arith, ints))

-- a component of the colour, by what each corner counts
component-from : (p : Primitive) (k : ℕ) (x y : ℤ) (r : ℕ) → AreWeights (weight p 0 x y) (weight p 1 x y) (weight p 2 x y)
    → r ≡ weighted_mean (unsigned_abs (weight p 0 x y) * (corner p 0).q) (unsigned_abs (weight p 1 x y) * (corner p 1).q) (unsigned_abs (weight p 2 x y) * (corner p 2).q)
    (slice_index (corner p 0).rgba k) (slice_index (corner p 1).rgba k) (slice_index (corner p 2).rgba k)
    → r ≡ component p k x y
unfolding interpolated weighted_sum
component-from p k x y r weights is =
    rw (
      is,
      mean_of (weight p 0 x y) (weight p 1 x y) (weight p 2 x y) (corner p 0).q (corner p 1).q (corner p 2).q
          (slice_index (corner p 0).rgba k) (slice_index (corner p 1).rgba k) (slice_index (corner p 2).rgba k)
          weights.first_from weights.second_from weights.third_from,
    )

-- some corner has a share
shares_positive : (u v w : ℤ) (q r s : ℕ) → AreWeights u v w → 1 ≤ q → 1 ≤ r → 1 ≤ s
    → 0 < unsigned_abs u * q + unsigned_abs v * r + unsigned_abs w * s
shares_positive u v w q r s weights first second third =
    let e = unsigned_abs u in
    let f = unsigned_abs v in
    let g = unsigned_abs w in
    omega (arith, ints, mul-le e 1 e q (omega arith) first, mul-le f 1 f r (omega arith) second, mul-le g 1 g s (omega arith) third)

-- the mean of three equal numbers
mean_of_one : (m n o i : ℕ) → 0 < m + n + o → weighted_mean m n o i i i ≡ i
mean_of_one m n o i some =
    let sum : m * i + n * i + o * i ≡ i * (m + n + o) = omega arith in
    rw sum (mul-div_cancel i some)

component-same : (p : Primitive) (k : ℕ) (x y : ℤ) → IsInRange p → AreWeights (weight p 0 x y) (weight p 1 x y) (weight p 2 x y)
    → (corner p 0).rgba ≡ (corner p 1).rgba → (corner p 0).rgba ≡ (corner p 2).rgba → component p k x y ≡ slice_index (corner p 0).rgba k
component-same p k x y range weights second third =
    let some = shares_positive _ _ _ (corner p 0).q (corner p 1).q (corner p 2).q weights range.first.q_from range.second.q_from range.third.q_from in
    let mean = mean_of_one _ _ _ (slice_index (corner p 0).rgba k) some in
    sym (component-from p k x y (slice_index (corner p 0).rgba k) weights (rw (← second, ← third) (sym mean)))

-- where the corners have the same colour, so has each pixel
pub color-same : (p : Primitive) (x y : ℤ) → IsInRange p → IsTrue (covers p x y) → (corner p 0).rgba ≡ (corner p 1).rgba → (corner p 0).rgba ≡ (corner p 2).rgba
    → interpolated_color p x y ≡ slice_index (corner p 0).rgba 0 ∷ slice_index (corner p 0).rgba 1 ∷ slice_index (corner p 0).rgba 2 ∷ slice_index (corner p 0).rgba 3 ∷ []
color-same p x y range covered second third =
    let each : (k : ℕ) → component p k x y ≡ slice_index (corner p 0).rgba k = λ k. component-same p k x y range (AreWeights-covered p x y range covered) second third in
    rw (each 0, each 1, each 2, each 3)
