-- The depth of a primitive whose corners have the same one.
use Rattle.std.specs.Prelude.{◌≡◌, ℤ, pos, ◌+ℤ◌, ◌*ℤ◌, ◌<ℤ◌, IsTrue, unsigned_abs}
use Rattle.std.proofs.Common.{ap, arith}
use Rattle.std.proofs.lemmas.Int.{ints}
use Rattle.std.proofs.Math.IntN.{*ℤ_comm}
use Rattle.coverage.proofs.WeightLemmas.{AreWeights-covered}
use Rattle.fx_arith.specs.Number.{clamp, floor_div}
use Rattle.fx_arith.proofs.Products.{+ℤ-*ℤ}
use Rattle.gl_records.specs.declared.pixel.TheConstants.{GREATEST_DEPTH}
use Rattle.gl_records.specs.declared.prim.Primitive.{Primitive}
use Rattle.gl_records.specs.Coverage.{corner, covers}
use Rattle.gl_records.specs.Depth.{depth}
use Rattle.gl_records.specs.Valid.{IsInRange}
use Rattle.gl_records.specs.Weights.{weight, weighted_sum}
use Rattle.interpolation.proofs.Scaled.{over_itself}

one_share : (t a b c : ℤ) → (a *ℤ t) +ℤ (b *ℤ t) +ℤ (c *ℤ t) ≡ (a +ℤ b +ℤ c) *ℤ t
one_share t a b c = omega (arith, ints, +ℤ-*ℤ (a +ℤ b) c t, +ℤ-*ℤ a b t)

-- shares that have a sum above 0
same_mean : (a b c t : ℤ) → pos 0 <ℤ (a +ℤ b +ℤ c) → floor_div ((a *ℤ t) +ℤ (b *ℤ t) +ℤ (c *ℤ t)) (unsigned_abs (a +ℤ b +ℤ c)) ≡ t
same_mean a b c t some = rw (one_share t a b c, *ℤ_comm (a +ℤ b +ℤ c) t) (over_itself (a +ℤ b +ℤ c) t some)

by_one : (a : ℤ) → a *ℤ pos 1 ≡ a
by_one a = omega (arith, ints)

-- where the corners have the same depth, so has each pixel
pub depth-same : (p : Primitive) (x y : ℤ) → IsInRange p → IsTrue (covers p x y)
    → (corner p 0).z ≡ (corner p 1).z → (corner p 0).z ≡ (corner p 2).z
    → depth p x y ≡ unsigned_abs (clamp (pos 0) (pos GREATEST_DEPTH) (corner p 0).z)
unfolding depth weighted_sum
depth-same p x y range covered second third =
    let are = AreWeights-covered p x y range covered in
    let a = weight p 0 x y in
    let b = weight p 1 x y in
    let c = weight p 2 x y in
    rw (← second, ← third, by_one a, by_one b, by_one c)
    (ap (λ (z : ℤ). unsigned_abs (clamp (pos 0) (pos GREATEST_DEPTH) z)) (same_mean a b c (corner p 0).z are.sum_above))
