-- How the shares of a primitive's corners change over a tile.
use Rattle.std.specs.Prelude.{◌≡◌, ℕ, ℤ, pos, ◌+◌, ◌≤◌, ◌-ℤ◌, ◌*ℤ◌}
use Rattle.plane_equations.specs.declared.plane.Plane.{Plane}
use Rattle.plane_equations.specs.Planes.{plane_at}
use Rattle.gl_records.specs.declared.prim.Primitive.{Primitive}
use Rattle.gl_records.specs.declared.prim.VertexOut.{VertexOut}
use Rattle.gl_records.specs.declared.tile.TileRect.{TileRect}
use Rattle.gl_records.specs.Coverage.{corner}
use Rattle.gl_records.specs.Weights.{weight}
use Rattle.interpolation.specs.declared.shares.Shares.{Shares}
use Rattle.interpolation.specs.declared.slopes.Slopes.{Slopes}
use Rattle.interpolation.specs.Factors.{factor, scaled_sum}

-- what corner k counts at pixel (x, y)
abbrev pub scaled_weight : Primitive → ℕ → ℤ → ℤ → ℤ
scaled_weight p k x y = weight p k x y *ℤ pos (factor p (corner p k))

-- and how much more at a pixel than at the surface's first
abbrev pub scaled_change : Primitive → ℕ → ℤ → ℤ → ℤ
scaled_change p k x y = scaled_weight p k x y -ℤ scaled_weight p k (pos 0) (pos 0)

-- these are what the corners count at pixel (x, y)
pub record AreScaled (shares : Shares) (p : Primitive) (x y : ℤ) : Type 0 where
  pub first : shares.first ≡ scaled_weight p 0 x y
  pub second : shares.second ≡ scaled_weight p 1 x y
  pub third : shares.third ≡ scaled_weight p 2 x y

-- these are how much more they count at pixel (x, y) than at the surface's first
pub record AreChanges (shares : Shares) (p : Primitive) (x y : ℤ) : Type 0 where
  pub first : shares.first ≡ scaled_change p 0 x y
  pub second : shares.second ≡ scaled_change p 1 x y
  pub third : shares.third ≡ scaled_change p 2 x y

-- the plane is the sum of a value of the corners, at the pixels of the tile and one beyond
abbrev pub IsSumPlane : Primitive → TileRect → (VertexOut → ℤ) → Plane → Type 0
IsSumPlane p rect value plane =
    (i j : ℕ) → i ≤ 16 → j ≤ 16 → plane_at plane i j ≡ scaled_sum p value (pos (rect.x0 + i)) (pos (rect.y0 + j))

-- these are a primitive's slopes
pub record AreSlopes (slopes : Slopes) (p : Primitive) : Type 0 where
  pub right : AreChanges slopes.right p (pos 1) (pos 0)
  pub up : AreChanges slopes.up p (pos 0) (pos 1)

-- the shares at the tile's first pixel, and the slopes, are those of the primitive
pub record IsFrameOf (p : Primitive) (rect : TileRect) (start : Shares) (steps : Slopes) : Type 0 where
  pub origin : AreScaled start p (pos rect.x0) (pos rect.y0)
  pub slopes : AreSlopes steps p
