-- The line that two clipped vertices make (OpenGL ES 1.1.12, 3.4; the bounds are this project's profile).
use Rattle.std.specs.Prelude.{ℕ, ℤ, pos, ◌+ℤ◌, ◌-ℤ◌, Bool, false, ◌&&◌, [], ◌∷◌, Option, Some, None, if◌then◌else◌}
use Rattle.std.specs.Int.{int_max, int_min}
use Rattle.std.specs.Ordering.{int_eq}
use Rattle.fx_arith.specs.Number.{floor_div}
use Rattle.gl_records.specs.declared.clip_vertex.ClipVertex.{ClipVertex}
use Rattle.gl_records.specs.declared.pixel_box.PixelBox.{PixelBox}
use Rattle.gl_records.specs.declared.prim.Primitive.{Primitive}
use Rattle.gl_records.specs.declared.prim.PrimKind.TheVariants.{Line}
use Rattle.gl_records.specs.declared.prim.VertexOut.{VertexOut}
use Rattle.gl_records.specs.declared.setup_rules.SetupRules.{SetupRules}
use Rattle.gl_records.specs.declared.size.Size.{Size}
use Rattle.primitive_setup.specs.Bounds.{cut, is_empty}
use Rattle.primitive_setup.specs.Window.{corner_of}

-- the column, or row, that is a line's width before its lesser end
abbrev pub first_near : ℤ → ℤ → ℕ → ℤ
first_near start end width = floor_div (int_min start end) 16 -ℤ pos width

-- one past the column, or row, that is a line's width past its greater end
abbrev pub end_near : ℤ → ℤ → ℕ → ℤ
end_near start end width = floor_div (int_max start end) 16 +ℤ pos width +ℤ pos 1

unfoldable pub line_bounds : Size → ℕ → VertexOut → VertexOut → PixelBox
line_bounds size width a b =
    cut size (first_near a.x b.x width) (first_near a.y b.y width) (end_near a.x b.x width) (end_near a.y b.y width)

-- a line with these bounds; none where they are empty
abbrev pub line_in : PixelBox → ℕ → VertexOut → VertexOut → Option Primitive
line_in bounds width a b =
    if is_empty bounds then None
    else Some (record { kind = Line; verts = a ∷ b ∷ b ∷ []; width = width; bounds = bounds })

-- the ends of a line are at the same place
abbrev pub are_same_place : VertexOut → VertexOut → Bool
are_same_place a b = int_eq a.x b.x && int_eq a.y b.y

-- the line between two ends; none where they are at the same place
unfoldable pub line_between : Size → ℕ → VertexOut → VertexOut → Option Primitive
line_between size width a b = if are_same_place a b then None else line_in (line_bounds size width a b) width a b

-- the line that two vertices make, in their front colours
unfoldable pub line_of : SetupRules → Size → ClipVertex → ClipVertex → Option Primitive
line_of rules size a b = line_between size rules.line (corner_of rules false a) (corner_of rules false b)
