-- The depths of a primitive over a tile, as they are prepared.
use Rattle.std.specs.Prelude.{◌≡◌, ℕ, ℤ, pos, ◌≤◌, IsTrue}
use Rattle.plane_equations.specs.declared.plane.Plane.{Plane}
use Rattle.plane_equations.specs.declared.reciprocals.Reciprocal.{Reciprocal}
use Rattle.plane_equations.specs.Planes.{plane_at}
use Rattle.gl_records.specs.declared.prim.Primitive.{Primitive}
use Rattle.gl_records.specs.Coverage.{covers}
use Rattle.gl_records.specs.Depth.{depth}
use Rattle.gl_records.specs.Weights.{weighted_sum}
use Rattle.interpolation.specs.declared.depths.Slope.{Slope}
use Rattle.interpolation.specs.declared.depths.Slope.TheVariants.{Level, Straight, Plain}
use Rattle.interpolation.specs.TileValues.{OnTile, x_of, y_of}

-- the sum of the corners' depths, each as often as its corner's weight says
abbrev pub depth_sum : Primitive → ℤ → ℤ → ℤ
depth_sum p x y = weighted_sum p (λ v. v.z) x y

-- the sum of the weights
abbrev pub weight_total : Primitive → ℤ → ℤ → ℤ
weight_total p x y = weighted_sum p (λ v. pos 1) x y

-- these are the two sums at the pixels of the tile, of which the second is the same at all of them
pub record IsStraight (on : OnTile) (sum : Plane) (by : Reciprocal) : Type 0 where
  pub sums : (i j : ℕ) → i ≤ 16 → j ≤ 16 → plane_at sum i j ≡ depth_sum on.prim (x_of on i) (y_of on j)
  pub total : (i j : ℕ) → by.divisor ≡ weight_total on.prim (x_of on i) (y_of on j)

-- each pixel that the primitive covers has this depth
abbrev pub IsLevel : Primitive → ℕ → Type 0
IsLevel p z = (x y : ℤ) → IsTrue (covers p x y) → depth p x y ≡ z

-- what is known of prepared depths
abbrev pub AreDepthsOf : OnTile → Slope → Type 0
AreDepthsOf on (Level z) = IsLevel on.prim z
AreDepthsOf on (Straight sum by) = IsStraight on sum by
AreDepthsOf on Plain = Unit {0}
