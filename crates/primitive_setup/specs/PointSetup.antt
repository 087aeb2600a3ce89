-- The point that a clipped vertex makes (OpenGL ES 1.1.12, 3.3).
use Rattle.std.specs.Prelude.{ℕ, pos, ◌+ℤ◌, false, [], ◌∷◌, Option, Some, None, if◌then◌else◌}
use Rattle.gl_records.specs.declared.clip_vertex.ClipVertex.{ClipVertex}
use Rattle.gl_records.specs.declared.pixel_box.PixelBox.{PixelBox}
use Rattle.gl_records.specs.declared.prim.Primitive.{Primitive}
use Rattle.gl_records.specs.declared.prim.PrimKind.TheVariants.{Point}
use Rattle.gl_records.specs.declared.prim.VertexOut.{VertexOut}
use Rattle.gl_records.specs.declared.setup_rules.SetupRules.{SetupRules}
use Rattle.gl_records.specs.declared.size.Size.{Size}
use Rattle.gl_records.specs.PointCoverage.{first_about}
use Rattle.primitive_setup.specs.Bounds.{cut, is_empty}
use Rattle.primitive_setup.specs.Window.{corner_of}

-- the columns and the rows that a point of this size covers, cut to the surface
unfoldable pub point_bounds : Size → ℕ → VertexOut → PixelBox
point_bounds size width v =
    cut size (first_about v.x width) (first_about v.y width) (first_about v.x width +ℤ pos width) (first_about v.y width +ℤ pos width)

-- a point with these bounds; none where they are empty
abbrev pub point_in : PixelBox → ℕ → VertexOut → Option Primitive
point_in bounds width v =
    if is_empty bounds then None
    else Some (record { kind = Point; verts = v ∷ v ∷ v ∷ []; width = width; bounds = bounds })

-- the point of this size at a place
unfoldable pub point_at : Size → ℕ → VertexOut → Option Primitive
point_at size width v = point_in (point_bounds size width v) width v

-- the point that a vertex makes, in its front colour
unfoldable pub point_of : SetupRules → Size → ClipVertex → Option Primitive
point_of rules size v = point_at size rules.point (corner_of rules false v)
