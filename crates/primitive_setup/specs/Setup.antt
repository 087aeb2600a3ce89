-- What set-up makes of a primitive's clipped vertices (OpenGL ES 1.1.12, 2.10.1, 2.12.1 and 3.3 to 3.5).
use Rattle.std.specs.Prelude.{ℕ, ℤ, pos, Bool, ◌||◌, List, [], ◌∷◌, Option, Some, None, int_lt, if◌then◌else◌, unsigned_abs}
use Rattle.std.specs.Ordering.{int_eq}
use Rattle.fx_arith.specs.declared.fx.Fx.{Fx}
use Rattle.gl_records.specs.declared.clip_vertex.ClipVertex.{ClipVertex}
use Rattle.gl_records.specs.declared.pixel_box.PixelBox.{PixelBox}
use Rattle.gl_records.specs.declared.prim.Primitive.{Primitive}
use Rattle.gl_records.specs.declared.prim.PrimKind.{PrimKind}
use Rattle.gl_records.specs.declared.prim.PrimKind.TheVariants.{Point, Line, Triangle}
use Rattle.gl_records.specs.declared.prim.VertexOut.{VertexOut}
use Rattle.gl_records.specs.declared.setup_rules.SetupRules.{SetupRules}
use Rattle.gl_records.specs.declared.size.Size.{Size}
use Rattle.primitive_setup.specs.declared.window.Place.{Place}
use Rattle.primitive_setup.specs.Bounds.{bounds_of, is_empty}
use Rattle.primitive_setup.specs.Facing.{faces_front, is_culled, takes_back_colors}
use Rattle.primitive_setup.specs.Offset.{with_offset, offset_of}
use Rattle.primitive_setup.specs.LineSetup.{line_of}
use Rattle.primitive_setup.specs.PointSetup.{point_of}
use Rattle.gl_records.specs.ClipVertex.{vertex}
use Rattle.gl_records.specs.Coverage.{doubled_area}
use Rattle.primitive_setup.specs.Window.{corner_of, place_of}

-- a triangle with these corners and these bounds, the offset added to each depth; none where the bounds are empty
abbrev pub triangle_in : PixelBox → ℤ → VertexOut → VertexOut → VertexOut → Option Primitive
triangle_in bounds offset a b c =
    if is_empty bounds then None
    else Some (record { kind = Triangle; verts = with_offset offset a ∷ with_offset offset b ∷ with_offset offset c ∷ []; width = 0; bounds = bounds })

-- a triangle of this doubled area whose corners run counterclockwise
unfoldable pub offset_triangle : Option (List Fx) → Size → ℕ → VertexOut → VertexOut → VertexOut → Option Primitive
offset_triangle offset size area a b c = triangle_in (bounds_of size a b c) (offset_of offset area a b c) a b c

-- a triangle of this doubled area; where its corners run clockwise, the second and the third change places
unfoldable pub counterclockwise_triangle : Option (List Fx) → Size → ℤ → VertexOut → VertexOut → VertexOut → Option Primitive
counterclockwise_triangle offset size area a b c =
    if int_lt area (pos 0) then offset_triangle offset size (unsigned_abs area) a c b else offset_triangle offset size (unsigned_abs area) a b c

-- a triangle of this doubled area; none where it has no area, or the side that is seen is culled
unfoldable pub visible_triangle : SetupRules → Size → ℤ → ClipVertex → ClipVertex → ClipVertex → Option Primitive
visible_triangle rules size area a b c =
    if int_eq area (pos 0) || is_culled rules.cull (faces_front rules.front_ccw area) then None
    else counterclockwise_triangle rules.offset size area (corner_of rules behind a) (corner_of rules behind b) (corner_of rules behind c)
  where
    behind : Bool
    behind = takes_back_colors rules.two_side (faces_front rules.front_ccw area)

-- twice the area of the triangle with these places
abbrev pub area_of : Place → Place → Place → ℤ
area_of a b c = doubled_area a.x a.y b.x b.y c.x c.y

-- the triangle that three vertices make
unfoldable pub triangle_of : SetupRules → Size → ClipVertex → ClipVertex → ClipVertex → Option Primitive
triangle_of rules size a b c = visible_triangle rules size (area_of (place_of rules a) (place_of rules b) (place_of rules c)) a b c

-- a primitive by its kind: of a line the first two vertices count, of a point the first
abbrev pub setup_of : SetupRules → PrimKind → List ClipVertex → Size → Option Primitive
setup_of rules Triangle vertices size = triangle_of rules size (vertex vertices 0) (vertex vertices 1) (vertex vertices 2)
setup_of rules Line vertices size = line_of rules size (vertex vertices 0) (vertex vertices 1)
setup_of rules Point vertices size = point_of rules size (vertex vertices 0)
