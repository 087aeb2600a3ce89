-- The vertex arrays and their commands (OpenGL ES 1.1.12, 2.8).
use Rattle.std.specs.Prelude.{ℕ, Bool, true, false, Option, None, Result, Ok}
use Rattle.gl_records.specs.declared.rec.Rec.{Rec}
use Rattle.gl_records.specs.declared.rec.Rec.TheVariants.{VertexPointer, NormalPointer, ColorPointer, TexCoordPointer, EnableClientState, DisableClientState, ClientActiveTexture}
use Rattle.gl_tokens.specs.ArrayKind as array_kind
use Rattle.gl_tokens.specs.declared.array_kind.ArrayKind.{ArrayKind}
use Rattle.gl_tokens.specs.declared.array_kind.ArrayKind.TheVariants.{Vertex, Normal, Color, TextureCoord}
use Rattle.gl_tokens.specs.TextureUnit as texture_unit
use Rattle.gl_tokens.specs.declared.texture_unit.TextureUnit.{TextureUnit}
use Rattle.gl_tokens.specs.declared.texture_unit.TextureUnit.TheVariants.{Texture0, Texture1}
use Rattle.gl_tokens.specs.declared.gl_error.GlError.{GlError}
use Rattle.gl_tokens.specs.Commands.{done, known, ◌>>=◌}
use Rattle.buffer_objects.specs.declared.buffer_key.BufferKey.{BufferKey}
use Rattle.vertex_fetch.specs.Storage.{storage}
use Rattle.vertex_fetch.specs.declared.arrays.Arrays.{Arrays}
use Rattle.vertex_fetch.specs.declared.storage.Storage.TheVariants.{Region}
use Rattle.vertex_fetch.specs.declared.vertex_array.VertexArray.{VertexArray}
use Rattle.vertex_fetch.specs.declared.component_format.ComponentFormat.TheVariants.{Fixed}
use Rattle.vertex_fetch.specs.Pointer.{Pointer, pointer, coordinate_pointer, normal_pointer, color_pointer}

-- an array that is off, of so many GLfixed components, which begins where region 0 begins
abbrev pub opening_array : ℕ → VertexArray
opening_array size = record { pointer = pointer size Fixed 0 (Region 0) 0; on = false }

-- every array is off; normals have 3 components, all else has 4; the client's active unit is the first
abbrev pub opening_arrays : Arrays
opening_arrays = record {
  vertex = opening_array 4;
  normal = opening_array 3;
  color = opening_array 4;
  texture0 = opening_array 4;
  texture1 = opening_array 4;
  unit = Texture0;
}

-- the array of a unit's texture coordinates
abbrev pub texture_array : Arrays → TextureUnit → VertexArray
texture_array arrays Texture0 = arrays.texture0
texture_array arrays Texture1 = arrays.texture1

-- an array; of texture coordinates it is that of the client's active unit
abbrev pub array_of : Arrays → ArrayKind → VertexArray
array_of arrays Vertex = arrays.vertex
array_of arrays Normal = arrays.normal
array_of arrays Color = arrays.color
array_of arrays TextureCoord = texture_array arrays arrays.unit

-- an array changed, and the others as they were
abbrev pub with_texture_array : Arrays → TextureUnit → VertexArray → Arrays
with_texture_array arrays Texture0 array = record arrays { texture0 = array }
with_texture_array arrays Texture1 array = record arrays { texture1 = array }

abbrev pub with_array : Arrays → ArrayKind → VertexArray → Arrays
with_array arrays Vertex array = record arrays { vertex = array }
with_array arrays Normal array = record arrays { normal = array }
with_array arrays Color array = record arrays { color = array }
with_array arrays TextureCoord array = with_texture_array arrays arrays.unit array

-- whether an array is on
abbrev pub is_enabled : Arrays → ArrayKind → Bool
is_enabled arrays kind = (array_of arrays kind).on

-- an array on or off
abbrev pub with_switch : Arrays → ArrayKind → Bool → Arrays
with_switch arrays kind on = with_array arrays kind (record { pointer = (array_of arrays kind).pointer; on = on })

-- an array that lies elsewhere
abbrev pub with_pointer : Arrays → ArrayKind → Pointer → Arrays
with_pointer arrays kind pointer = with_array arrays kind (record { pointer = pointer; on = (array_of arrays kind).on })

-- EnableClientState and DisableClientState
abbrev pub client_state : Arrays → ℕ → Bool → Arrays × Option GlError
client_state arrays code on = done arrays do
  kind ← known (array_kind.from_code_of code)
  Ok (with_switch arrays kind on)

-- ClientActiveTexture
abbrev pub client_active_texture : Arrays → ℕ → Arrays × Option GlError
client_active_texture arrays texture = done arrays do
  unit ← known (texture_unit.from_code_of texture)
  Ok (record arrays { unit = unit })

-- VertexPointer, NormalPointer, ColorPointer and TexCoordPointer, of the pointer that is given or its error
abbrev pub point : Arrays → ArrayKind → Result Pointer GlError → Arrays × Option GlError
point arrays kind given = done arrays do
  pointer ← given
  Ok (with_pointer arrays kind pointer)

-- a command's arrays and its error, where this buffer object is bound to ARRAY_BUFFER; the other commands leave the
-- arrays as they are
abbrev pub with_command : Arrays → Option BufferKey → Rec → Arrays × Option GlError
with_command arrays bound (VertexPointer size code stride region offset) = point arrays Vertex (coordinate_pointer size code stride (storage bound region) offset)
with_command arrays bound (NormalPointer code stride region offset) = point arrays Normal (normal_pointer code stride (storage bound region) offset)
with_command arrays bound (ColorPointer size code stride region offset) = point arrays Color (color_pointer size code stride (storage bound region) offset)
with_command arrays bound (TexCoordPointer size code stride region offset) =
    point arrays TextureCoord (coordinate_pointer size code stride (storage bound region) offset)
with_command arrays bound (EnableClientState code) = client_state arrays code true
with_command arrays bound (DisableClientState code) = client_state arrays code false
with_command arrays bound (ClientActiveTexture texture) = client_active_texture arrays texture
with_command arrays bound _ = (arrays, None)
