-- Vertices in clip coordinates, after clipping (OpenGL ES 1.1.12, 2.11).
use Rattle.std.specs.Prelude.{ℕ, ℤ, pos, ◌≤ℤ◌, List, [], slice_index_or}
use Rattle.fx_arith.specs.Number.{component}
use Rattle.gl_records.specs.declared.clip_vertex.ClipVertex.{ClipVertex}

-- what stands for a vertex that is not there
abbrev pub no_vertex : ClipVertex
no_vertex = record { clip = []; plane = record { 0 = pos 0 }; front = []; back = []; tex = []; fog = record { 0 = pos 0 } }

-- vertex k of a list
abbrev pub vertex : List ClipVertex → ℕ → ClipVertex
vertex vertices k = slice_index_or vertices k no_vertex

-- the clip coordinate w
abbrev pub w_of : ClipVertex → ℤ
w_of v = component v.clip 3

-- three vertices that can be divided by w, which is at least one raw unit: clipping gives no others
pub record AreInFront (vertices : List ClipVertex) : Type 0 where
  pub first : pos 1 ≤ℤ w_of (vertex vertices 0)
  pub second : pos 1 ≤ℤ w_of (vertex vertices 1)
  pub third : pos 1 ≤ℤ w_of (vertex vertices 2)
