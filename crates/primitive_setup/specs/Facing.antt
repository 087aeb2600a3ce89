-- Which side of a triangle is seen, and whether that side is culled (OpenGL ES 1.1.12, 2.12.1 and 3.5.1).
use Rattle.std.specs.Prelude.{ℤ, pos, Bool, false, ◌&&◌, not, List, Option, Some, None, int_lt, slice_index_or, if◌then◌else◌}

-- the front of a triangle of this doubled area is seen
unfoldable pub faces_front : Bool → ℤ → Bool
faces_front front_is_counterclockwise area = if front_is_counterclockwise then int_lt (pos 0) area else int_lt area (pos 0)

-- culling is on for the side that is seen
unfoldable pub is_culled : Option (List Bool) → Bool → Bool
is_culled None front = false
is_culled (Some sides) front = if front then slice_index_or sides 0 false else slice_index_or sides 1 false

-- under two-sided lighting a triangle seen from behind takes its corners' back colours
unfoldable pub takes_back_colors : Bool → Bool → Bool
takes_back_colors two_side front = two_side && not front
