-- Sums over the corners by their shares.
use Rattle.std.specs.Prelude.{ℕ, ℤ, pos, negsuc, ◌+ℤ◌, ◌*ℤ◌, ◌≤ℤ◌, ◌≡◌, slice_index, unsigned_abs}
use Rattle.std.proofs.Common.{arith, refl}
use Rattle.std.proofs.lemmas.Int.{ints}
use Rattle.fx_arith.proofs.Products.{*ℤ_assoc}
use Rattle.fx_arith.specs.Number.{floor_div}
use Rattle.gl_records.specs.declared.prim.Primitive.{Primitive}
use Rattle.gl_records.specs.declared.prim.VertexOut.{VertexOut}
use Rattle.gl_records.specs.Coverage.{corner}
use Rattle.gl_records.specs.Interpolation.{component, interpolated}
use Rattle.gl_records.specs.TextureCoordinate.{coordinate_sum, corner_coordinate}
use Rattle.gl_records.specs.Weights.{weight, weighted_sum}
use Rattle.interpolation.specs.declared.shares.Shares.{Shares}
use Rattle.interpolation.specs.Mean.{weighted_mean}
use Rattle.interpolation.specs.Shares.{ArePositive, AreShares, shared, shared_coordinate}

-- the sum of a value of the corners
pub weighted_sum-is : (shares : Shares) (p : Primitive) (value : VertexOut → ℤ) (x y : ℤ) → AreShares shares p x y
    → weighted_sum p (λ v. pos v.q *ℤ value v) x y ≡ shared shares (value (corner p 0)) (value (corner p 1)) (value (corner p 2))
unfolding weighted_sum
weighted_sum-is shares p value x y h =
    rw (
      h.first,
      h.second,
      h.third,
      *ℤ_assoc (weight p 0 x y) (pos (corner p 0).q) (value (corner p 0)),
      *ℤ_assoc (weight p 1 x y) (pos (corner p 1).q) (value (corner p 1)),
      *ℤ_assoc (weight p 2 x y) (pos (corner p 2).q) (value (corner p 2)),
    )

-- the sum of the shares
pub total-is : (shares : Shares) (p : Primitive) (x y : ℤ) → AreShares shares p x y
    → weighted_sum p (λ v. pos v.q) x y ≡ shares.first +ℤ shares.second +ℤ shares.third
unfolding weighted_sum
total-is shares p x y h = rw (h.first, h.second, h.third)

-- the sum of a texture coordinate
pub coordinate_sum-is : (shares : Shares) (p : Primitive) (unit k : ℕ) (x y : ℤ) → AreShares shares p x y
    → coordinate_sum p unit k x y ≡ shared_coordinate shares p unit k
unfolding coordinate_sum
coordinate_sum-is shares p unit k x y h = weighted_sum-is shares p (corner_coordinate unit k) x y h

-- a mean of bytes, of shares that aren't below 0
mean-is : (e f g : ℤ) (a b c : ℕ) → pos 0 ≤ℤ e → pos 0 ≤ℤ f → pos 0 ≤ℤ g
    → unsigned_abs (floor_div ((e *ℤ pos a) +ℤ (f *ℤ pos b) +ℤ (g *ℤ pos c)) (unsigned_abs (e +ℤ f +ℤ g)))
    ≡ weighted_mean (unsigned_abs e) (unsigned_abs f) (unsigned_abs g) a b c
mean-is (pos e) (pos f) (pos g) a b c h i j = refl
mean-is (negsuc e) f g a b c h i j = absurd (omega (arith, ints))
mean-is (pos e) (negsuc f) g a b c h i j = absurd (omega (arith, ints))
mean-is (pos e) (pos f) (negsuc g) a b c h i j = absurd (omega (arith, ints))

-- a component of the colour
pub component-is : (shares : Shares) (p : Primitive) (k : ℕ) (x y : ℤ) → ArePositive shares → AreShares shares p x y
    → component p k x y
    ≡ weighted_mean (unsigned_abs shares.first) (unsigned_abs shares.second) (unsigned_abs shares.third)
    (slice_index (corner p 0).rgba k) (slice_index (corner p 1).rgba k) (slice_index (corner p 2).rgba k)
unfolding interpolated
component-is shares p k x y positive h =
    rw (weighted_sum-is shares p (λ v. pos (slice_index v.rgba k)) x y h, total-is shares p x y h)
    (mean-is shares.first shares.second shares.third _ _ _ positive.first positive.second positive.third)
