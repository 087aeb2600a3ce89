-- Polygon offset (OpenGL ES 1.1.12, 3.5.2; the rounding is this project's profile).
use Rattle.std.specs.Prelude.{ℕ, ℤ, pos, negsuc, ◌+ℤ◌, ◌-ℤ◌, ◌*ℤ◌, ◌*◌, List, Option, Some, None, max, unsigned_abs}
use Rattle.fx_arith.specs.declared.fx.Fx.{Fx}
use Rattle.fx_arith.specs.Number.{clamp, component, floor_div}
use Rattle.gl_records.specs.declared.prim.VertexOut.{VertexOut}

-- the slope of depth along x, times the doubled area
abbrev pub slope_along_x : VertexOut → VertexOut → VertexOut → ℤ
slope_along_x a b c = (b.z -ℤ a.z) *ℤ (c.y -ℤ a.y) -ℤ (c.z -ℤ a.z) *ℤ (b.y -ℤ a.y)

-- the slope of depth along y, times the doubled area
abbrev pub slope_along_y : VertexOut → VertexOut → VertexOut → ℤ
slope_along_y a b c = (c.z -ℤ a.z) *ℤ (b.x -ℤ a.x) -ℤ (b.z -ℤ a.z) *ℤ (c.x -ℤ a.x)

-- the greater of the slopes along x and along y, times the doubled area
unfoldable pub steepest : VertexOut → VertexOut → VertexOut → ℕ
steepest a b c = max (unsigned_abs (slope_along_x a b c)) (unsigned_abs (slope_along_y a b c))

-- the slope for each pixel times the factor, and the units, kept from -2^25 to 2^25
unfoldable pub offset_for : ℤ → ℤ → ℕ → ℕ → ℤ
offset_for factor units slope area =
    clamp (negsuc 33554431) (pos 33554432)
    (floor_div (pos 16 *ℤ pos slope *ℤ factor) (65536 * area) +ℤ floor_div units 65536)

-- what is added to each corner's depth: nothing where polygon offset is off
unfoldable pub offset_of : Option (List Fx) → ℕ → VertexOut → VertexOut → VertexOut → ℤ
offset_of None area a b c = pos 0
offset_of (Some factor_and_units) area a b c =
    offset_for (component factor_and_units 0) (component factor_and_units 1) (steepest a b c) area

-- the corner with this offset added to its depth
abbrev pub with_offset : ℤ → VertexOut → VertexOut
with_offset offset v = record v { z = v.z +ℤ offset }
