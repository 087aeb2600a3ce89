-- Which pixels a point covers (OpenGL ES 1.1.12, 3.3): a square of pixels about its place, which is in units of
-- 1/16 pixel. Where the rounding puts it is this project's profile.
use Rattle.std.specs.Prelude.{ℕ, ℤ, pos, ◌+ℤ◌, ◌-ℤ◌, ◌*ℤ◌, Bool, ◌&&◌, int_le, int_lt}
use Rattle.fx_arith.specs.Number.{floor_div}
use Rattle.gl_records.specs.declared.prim.VertexOut.{VertexOut}

-- the first column, or row, of a square about the place that has so many of them
abbrev pub first_about : ℤ → ℕ → ℤ
first_about place size = floor_div (place -ℤ (pos 8 *ℤ (pos size -ℤ pos 1))) 16

-- a column, or row, is one of so many from the first on
abbrev pub is_among : ℤ → ℕ → ℤ → Bool
is_among first count at = int_le first at && int_lt at (first +ℤ pos count)

-- a point of this size at the place of v covers pixel (x, y)
unfoldable pub point_covers : VertexOut → ℕ → ℤ → ℤ → Bool
point_covers v size x y = is_among (first_about v.x size) size x && is_among (first_about v.y size) size y
