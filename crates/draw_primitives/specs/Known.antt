-- Vertices of a draw that were computed for its last primitive.
use Rattle.std.specs.Prelude.{◌≡◌, List, [], ◌∷◌, IfSome}
use Rattle.gl_records.specs.declared.clip_vertex.ClipVertex.{ClipVertex}
use Rattle.draw_primitives.specs.declared.draw_state.DrawState.{DrawState}
use Rattle.draw_primitives.specs.declared.known.KnownVertex.{KnownVertex}
use Rattle.draw_primitives.specs.declared.known.KnownVertices.{KnownVertices}
use Rattle.draw_primitives.specs.Draw.{Rest, vertex_of_element}
use Rattle.draw_primitives.specs.Memory.{Memory, Source}

-- it is the draw's vertex of its element
abbrev pub IsVertex : DrawState → Source → KnownVertex → Type 0
IsVertex state source known = known.vertex ≡ vertex_of_element state source known.index

pub record AreVertices (state : DrawState) (source : Source) (known : KnownVertices) : Type 0 where
  pub first : IsVertex state source known.first
  pub second : IsVertex state source known.second
  pub third : IsVertex state source known.third

abbrev pub vertices_of : KnownVertices → List ClipVertex
vertices_of known = known.first.vertex ∷ known.second.vertex ∷ known.third.vertex ∷ []

-- what is known of the vertices of a draw holds in this memory
abbrev pub AreKnown : Memory → Rest → Type 0
AreKnown memory rest = IfSome rest.known (AreVertices rest.state (record { rec = rest.rec; element = rest.element; memory = memory }))
