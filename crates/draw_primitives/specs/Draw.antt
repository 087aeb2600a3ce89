-- The primitives of a draw, in their order: corners from the arrays, flat colours, clipping, set-up
-- (OpenGL ES 1.1.12, 2.6 to 2.12).
use Rattle.std.specs.Prelude.{ℕ, ◌<◌, ◌++◌, Bool, List, [], Option, None, map, is_some, if◌then◌else◌}
use Rattle.std.specs.List.{flat_map}
use Rattle.gl_records.specs.declared.clip_vertex.ClipVertex.{ClipVertex}
use Rattle.gl_records.specs.declared.prim.PrimKind.{PrimKind}
use Rattle.gl_records.specs.declared.prim.PrimKind.TheVariants.{Point, Line, Triangle}
use Rattle.gl_records.specs.declared.prim.Primitive.{Primitive}
use Rattle.gl_records.specs.declared.rec.Rec.{Rec}
use Rattle.gl_records.specs.declared.size.Size.{Size}
use Rattle.gl_records.specs.ClipVertex.{vertex}
use Rattle.gl_tokens.specs.declared.mode.Mode.{Mode}
use Rattle.gl_tokens.specs.declared.mode.Mode.TheVariants as mode
use Rattle.prim_assembly.specs.Primitives.{primitives}
use Rattle.vertex_fetch.specs.Draws.{HasVertex, index_of}
use Rattle.vertex_fetch.specs.Fetch.{fetch_of}
use Rattle.vertex_stage.specs.Vertex.{vertex_of}
use Rattle.buffer_objects.specs.declared.buffer_key.BufferKey.{BufferKey}
use Rattle.draw_primitives.specs.Memory.{Memory, Source}
use Rattle.draw_primitives.specs.declared.draw_state.DrawState.{DrawState}
use Rattle.draw_primitives.specs.declared.known.KnownVertices.{KnownVertices}
use Rattle.draw_primitives.specs.Fan.{clipped, fan, set_up}

-- what a mode's primitives span
abbrev pub kind_of : Mode → PrimKind
kind_of mode.Points = Point
kind_of mode.Lines = Line
kind_of mode.LineLoop = Line
kind_of mode.LineStrip = Line
kind_of mode.Triangles = Triangle
kind_of mode.TriangleStrip = Triangle
kind_of mode.TriangleFan = Triangle

-- the vertex that an element of the arrays gives a draw, in clip coordinates
unfoldable pub vertex_of_element : DrawState → Source → ℕ → ClipVertex
vertex_of_element state source index =
    let memory = source.memory in
    vertex_of state.vertex (fetch_of memory.arrays memory.buffers memory.regions state.current index)

-- vertex k of a draw
abbrev pub vertex_at : DrawState → Source → ℕ → ClipVertex
vertex_at state source k = vertex_of_element state source (index_of source.rec source.element source.memory.buffers source.memory.regions k)

-- the vertex with the colours of another
abbrev pub with_colors_of : ClipVertex → ClipVertex → ClipVertex
with_colors_of last v = record v { front = last.front; back = last.back }

-- a flat primitive has the colours of its last corner, before it is clipped
abbrev pub shaded : Bool → List ClipVertex → List ClipVertex
shaded flat corners = if flat then map (with_colors_of (vertex corners 2)) corners else corners

-- the corners of a primitive, by the numbers of its vertices
abbrev pub corners_of : DrawState → Source → List ℕ → List ClipVertex
corners_of state source numbers = shaded state.flat (map (vertex_at state source) numbers)

-- the primitives that set-up makes of one, by the numbers of its vertices
unfoldable pub set_up_of : DrawState → Source → Size → PrimKind → List ℕ → List Primitive
set_up_of state source size kind numbers =
    set_up state.rules kind size (fan (clipped kind (is_some state.vertex.plane) (corners_of state source numbers)))

-- and of several
abbrev pub set_up_all : DrawState → Source → Size → PrimKind → List (List ℕ) → List Primitive
set_up_all state source size kind each = flat_map (set_up_of state source size kind) each

-- the primitives of a draw of n vertices
abbrev pub primitives_of : DrawState → Source → Size → Mode → ℕ → List Primitive
primitives_of state source size mode n = set_up_all state source size (kind_of mode) (primitives mode n)

-- a draw without error that has vertices 0 to n - 1
abbrev pub HasVertices : Option BufferKey → Rec → ℕ → Type 0
HasVertices element rec n = (k : ℕ) → k < n → HasVertex element rec k

-- what is still to come of a draw: the pieces of the primitive in hand, and the primitives behind it, by the numbers of their
-- vertices; and the vertices of the primitive in hand
pub record Rest : Type 0 where
  pub state : DrawState
  pub rec : Rec
  pub element : Option BufferKey
  pub kind : PrimKind
  pub pieces : List (List ClipVertex)
  pub behind : List (List ℕ)
  pub known : Option KnownVertices

-- before the first primitive
abbrev pub all_of : DrawState → Rec → Option BufferKey → Mode → ℕ → Rest
all_of state rec element mode n =
    record { state = state; rec = rec; element = element; kind = kind_of mode; pieces = []; behind = primitives mode n; known = None }

-- the primitives themselves, from this memory
abbrev pub primitives_left : Memory → Size → Rest → List Primitive
primitives_left memory size rest =
    set_up rest.state.rules rest.kind size rest.pieces
    ++ set_up_all rest.state (record { rec = rest.rec; element = rest.element; memory = memory }) size rest.kind rest.behind
