-- What clipping leaves of a primitive, and the pieces of it that set-up takes one by one (OpenGL ES 1.1.12, 2.11).
use Rattle.std.specs.Prelude.{ℕ, ◌+◌, ◌-◌, Bool, List, [], ◌∷◌, length, map, Option, Some, None, option_to_list, if◌then◌else◌}
use Rattle.std.specs.List.{flat_map, list_all, range_with_len}
use Rattle.gl_records.specs.declared.clip_vertex.ClipVertex.{ClipVertex}
use Rattle.gl_records.specs.declared.prim.PrimKind.{PrimKind}
use Rattle.gl_records.specs.declared.prim.PrimKind.TheVariants.{Point, Line, Triangle}
use Rattle.gl_records.specs.declared.prim.Primitive.{Primitive}
use Rattle.gl_records.specs.declared.setup_rules.SetupRules.{SetupRules}
use Rattle.gl_records.specs.declared.size.Size.{Size}
use Rattle.gl_records.specs.ClipVertex.{vertex}
use Rattle.clipper.specs.Planes.{is_inside, planes}
use Rattle.clipper.specs.Polygon.{clipped_polygon}
use Rattle.clipper.specs.Segment.{clipped_segment}
use Rattle.primitive_setup.specs.Setup.{setup_of}

-- a point's corner stands three times, and a segment's second end twice
abbrev pub point_corners : ClipVertex → List ClipVertex
point_corners v = v ∷ v ∷ v ∷ []

abbrev pub segment_corners : Option (List ClipVertex) → List ClipVertex
segment_corners None = []
segment_corners (Some ends) = vertex ends 0 ∷ vertex ends 1 ∷ vertex ends 1 ∷ []

-- the corners of the polygon that clipping leaves of a primitive, by the planes of the clip volume and, where it is on, by
-- the user's
abbrev pub clipped : PrimKind → Bool → List ClipVertex → List ClipVertex
clipped Triangle user corners = clipped_polygon corners (planes user)
clipped Line user corners = segment_corners (clipped_segment (vertex corners 0 ∷ vertex corners 1 ∷ []) (planes user))
clipped Point user corners =
    if list_all (λ plane. is_inside plane (vertex corners 0)) (planes user) then point_corners (vertex corners 0) else []

-- triangle i of the fan round corner 0
abbrev pub piece : List ClipVertex → ℕ → List ClipVertex
piece polygon i = vertex polygon 0 ∷ vertex polygon (i + 1) ∷ vertex polygon (i + 2) ∷ []

-- the triangles of a polygon's fan, from triangle i on
abbrev pub fan_from : List ClipVertex → ℕ → List (List ClipVertex)
fan_from polygon i = map (piece polygon) (range_with_len i (length polygon - 2 - i))

abbrev pub fan : List ClipVertex → List (List ClipVertex)
fan polygon = fan_from polygon 0

-- the primitives that set-up makes of pieces
abbrev pub set_up : SetupRules → PrimKind → Size → List (List ClipVertex) → List Primitive
set_up rules kind size pieces = flat_map (λ corners. option_to_list (setup_of rules kind corners size)) pieces
