-- A vertex in clip coordinates (OpenGL ES 1.1.12, 2.10 to 2.12 and 3.8), of what the arrays and the current values give it.
use Rattle.std.specs.Prelude.{pos, List, [], ◌∷◌, map, Option, Some, None, slice_index_or, if◌then◌else◌}
use Rattle.fx_arith.specs.Number.{dot4, fixed, in_unit}
use Rattle.fx_arith.specs.declared.fx.Fx.{Fx}
use Rattle.fx_arith.specs.declared.mat4.Mat4.{Mat4}
use Rattle.gl_records.specs.declared.attribs.Attribs.{Attribs}
use Rattle.gl_records.specs.declared.clip_vertex.ClipVertex.{ClipVertex}
use Rattle.gl_records.specs.declared.vertex_state.VertexState.{VertexState}
use Rattle.matrix_stacks.specs.Product.{transformed}
use Rattle.vertex_light.specs.Components.{first_three, reversed}
use Rattle.vertex_light.specs.Lit.{lit}
use Rattle.vertex_stage.specs.Fog.{fog_factor}
use Rattle.vertex_stage.specs.Normal.{eye_normal}

-- the position in eye coordinates, and that in clip coordinates
abbrev pub eye_position : VertexState → List Fx → List Fx
eye_position state position = transformed state.modelview position

abbrev pub clip_position : VertexState → List Fx → List Fx
clip_position state eye = transformed state.projection eye

-- how far a place in eye coordinates lies from the user's plane, on its inner side; 0 where no plane is on
abbrev pub plane_distance : Option (List Fx) → List Fx → Fx
plane_distance None eye = fixed (pos 0)
plane_distance (Some plane) eye = fixed (dot4 plane eye)

-- of the texture coordinates s t r q these are used
abbrev pub stq : List Fx → List Fx
stq coordinates = slice_index_or coordinates 0 (fixed (pos 0)) ∷ slice_index_or coordinates 1 (fixed (pos 0)) ∷ slice_index_or coordinates 3 (fixed (pos 0)) ∷ []

-- texture coordinates through a unit's texture matrix
abbrev pub texture_coordinates : Mat4 → List Fx → List Fx
texture_coordinates texture coordinates = stq (transformed texture coordinates)

-- a colour, each component clamped to 0..1
abbrev pub shown : List Fx → List Fx
shown color = map in_unit color

-- the colour of a side whose normal in eye coordinates is this one; without lighting it is the vertex's
unfoldable pub side : VertexState → List Fx → List Fx → List Fx → List Fx
side state color normal eye = if state.lighting then lit state color normal (first_three eye) else shown color

-- the colour seen from the front, and that seen from behind, whose normal is the other way round
abbrev pub front_of : VertexState → Attribs → List Fx → List Fx
front_of state vertex eye = side state vertex.color (eye_normal state vertex.normal) eye

abbrev pub back_of : VertexState → Attribs → List Fx → List Fx
back_of state vertex eye = side state vertex.color (reversed (eye_normal state vertex.normal)) eye

-- what is made of a vertex whose position in eye coordinates is known
abbrev pub vertex_from : VertexState → Attribs → List Fx → ClipVertex
vertex_from state vertex eye = record {
  clip = clip_position state eye;
  plane = plane_distance state.plane eye;
  front = front_of state vertex eye;
  back = back_of state vertex eye;
  tex =
      texture_coordinates (slice_index_or state.texture 0 no_matrix) (slice_index_or vertex.tex 0 [])
      ∷ texture_coordinates (slice_index_or state.texture 1 no_matrix) (slice_index_or vertex.tex 1 []) ∷ [];
  fog = fog_factor state.fog eye;
}
  where
    no_matrix : Mat4
    no_matrix = record { 0 = [] }

-- a vertex in clip coordinates
unfoldable pub vertex_of : VertexState → Attribs → ClipVertex
vertex_of state vertex = vertex_from state vertex (eye_position state vertex.pos)
