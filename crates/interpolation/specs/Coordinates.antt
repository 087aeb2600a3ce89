-- The texture coordinates of a unit at a pixel.
use Rattle.std.specs.Prelude.{◌≡◌, ℕ, ℤ}
use Rattle.gl_records.specs.declared.prim.Primitive.{Primitive}
use Rattle.gl_records.specs.TextureCoordinate.{has_coordinates, s_at, t_at}
use Rattle.interpolation.specs.declared.coordinates.Coordinates.{Coordinates}

-- these are a unit's coordinates at pixel (x, y)
pub record AreCoordinates (at : Coordinates) (p : Primitive) (unit : ℕ) (x y : ℤ) : Type 0 where
  pub s : at.s.0 ≡ s_at p unit x y
  pub t : at.t.0 ≡ t_at p unit x y
  pub known : at.known ≡ has_coordinates p unit x y
