-- What the arrays give one vertex (OpenGL ES 1.1.12, 2.8). Places in a storage have no bound.
use Rattle.std.specs.Prelude.{ℕ, pos, ◌+◌, ◌*◌, ◌==◌, nat_lt, if◌then◌else◌, List, [], ◌∷◌, slice_index_or}
use Rattle.fx_arith.specs.Number.{one, fixed}
use Rattle.fx_arith.specs.declared.fx.Fx.{Fx}
use Rattle.gl_records.specs.declared.attribs.Attribs.{Attribs}
use Rattle.vertex_fetch.specs.ComponentFormat.{width_of, component_at}
use Rattle.buffer_objects.specs.Buffers.{BufferObjects}
use Rattle.vertex_fetch.specs.Storage.{stored}
use Rattle.vertex_fetch.specs.declared.arrays.Arrays.{Arrays}
use Rattle.vertex_fetch.specs.declared.vertex_array.VertexArray.{VertexArray}
use Rattle.vertex_fetch.specs.Pointer.{Pointer}

-- the bytes from one element to the next: a stride of 0 stands for elements one right after the other
abbrev pub spacing : Pointer → ℕ
spacing array = if array.stride == 0 then array.size * width_of array.format else array.stride

-- the byte of the storage at which element k begins
abbrev pub element_start : Pointer → ℕ → ℕ
element_start array k = array.offset + k * spacing array

-- component c of the element that begins at this byte, and what stands for one that the array doesn't have
abbrev pub component : Pointer → List ℕ → ℕ → ℕ → Fx → Fx
component array bytes start c missing =
    if nat_lt c array.size then component_at array.format bytes (start + c * width_of array.format) else missing

-- x y z of the element that begins at this byte
abbrev pub three_components : Pointer → List ℕ → ℕ → List Fx
three_components array bytes start =
    component array bytes start 0 (fixed (pos 0))
    ∷ component array bytes start 1 (fixed (pos 0))
    ∷ component array bytes start 2 (fixed (pos 0)) ∷ []

-- x y z w, s t r q or R G B A: the third is 0 where the array has none, and the fourth is 1
abbrev pub four_components : Pointer → List ℕ → ℕ → List Fx
four_components array bytes start =
    component array bytes start 0 (fixed (pos 0))
    ∷ component array bytes start 1 (fixed (pos 0))
    ∷ component array bytes start 2 (fixed (pos 0))
    ∷ component array bytes start 3 (fixed one) ∷ []

-- element k of an array that is on, else what is current
unfoldable pub three_of : VertexArray → BufferObjects → List (List ℕ) → List Fx → ℕ → List Fx
three_of array buffers regions current k =
    if array.on
    then three_components array.pointer (stored buffers regions array.pointer.storage) (element_start array.pointer k)
    else current

unfoldable pub four_of : VertexArray → BufferObjects → List (List ℕ) → List Fx → ℕ → List Fx
four_of array buffers regions current k =
    if array.on
    then four_components array.pointer (stored buffers regions array.pointer.storage) (element_start array.pointer k)
    else current

-- vertex k: each value is from its array where that is on, else it is the current one
unfoldable pub fetch_of : Arrays → BufferObjects → List (List ℕ) → Attribs → ℕ → Attribs
fetch_of arrays buffers regions current k = record {
  pos = four_of arrays.vertex buffers regions current.pos k;
  normal = three_of arrays.normal buffers regions current.normal k;
  color = four_of arrays.color buffers regions current.color k;
  tex = four_of arrays.texture0 buffers regions (slice_index_or current.tex 0 []) k
      ∷ four_of arrays.texture1 buffers regions (slice_index_or current.tex 1 []) k ∷ [];
}
