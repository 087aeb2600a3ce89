-- How the components of vertex arrays lie in memory, and the numbers that they stand for (OpenGL ES 1.1.12, 2.8).
use Rattle.std.specs.Prelude.{ℕ, ℤ, pos, ◌*ℤ◌, ◌+ℤ◌, Option, Some, None, List, slice_index}
use Rattle.std.specs.Int.{w8, w16, w32, cast_signed, from_le_bytes}
use Rattle.fx_arith.specs.Number.{floor_div, fixed, fixed_from_byte}
use Rattle.fx_arith.specs.declared.fx.Fx.{Fx}
use Rattle.gl_records.specs.BytesAt.{short_at, four_at}
use Rattle.gl_tokens.specs.declared.component_type.ComponentType.{ComponentType}
use Rattle.gl_tokens.specs.declared.component_type.ComponentType.TheVariants as component
use Rattle.vertex_fetch.specs.declared.component_format.ComponentFormat.{ComponentFormat}
use Rattle.vertex_fetch.specs.declared.component_format.ComponentFormat.TheVariants.{WholeByte, WholeShort, NormalByte, NormalShort, ColorByte, Fixed}

-- of the types of components, those that positions and texture coordinates may have
abbrev pub coordinate_format : Option ComponentType → Option ComponentFormat
coordinate_format (Some component.Byte) = Some WholeByte
coordinate_format (Some component.Short) = Some WholeShort
coordinate_format (Some component.Fixed) = Some Fixed
coordinate_format _ = None

-- those that normals may have
abbrev pub normal_format : Option ComponentType → Option ComponentFormat
normal_format (Some component.Byte) = Some NormalByte
normal_format (Some component.Short) = Some NormalShort
normal_format (Some component.Fixed) = Some Fixed
normal_format _ = None

-- those that colours may have
abbrev pub color_format : Option ComponentType → Option ComponentFormat
color_format (Some component.UnsignedByte) = Some ColorByte
color_format (Some component.Fixed) = Some Fixed
color_format _ = None

-- how many bytes a component takes
abbrev pub width_of : ComponentFormat → ℕ
width_of WholeByte = 1
width_of WholeShort = 2
width_of NormalByte = 1
width_of NormalShort = 2
width_of ColorByte = 1
width_of Fixed = 4

-- the signed number that begins at this byte of a region, its lowest byte first; a byte outside of the region is 0
abbrev pub signed_byte_at : List ℕ → ℕ → ℤ
signed_byte_at bytes start = cast_signed w8 (slice_index bytes start)

abbrev pub signed_short_at : List ℕ → ℕ → ℤ
signed_short_at bytes start = cast_signed w16 (short_at bytes start)

-- a signed number c of 8 or of 16 bits as a component of a normal, (2c + 1) / most, where `most` is the greatest number of
-- so many bits: the least c is -1, and the greatest is 1. Rounded down.
abbrev pub normal_component : ℕ → ℤ → Fx
normal_component most c = fixed (floor_div ((pos 2 *ℤ c +ℤ pos 1) *ℤ pos 65536) most)

-- the component that begins at this byte of a region: bytes and shorts of coordinates are whole numbers, those of normals
-- are spread over -1 to 1, and bytes of colours are 255ths
abbrev pub component_at : ComponentFormat → List ℕ → ℕ → Fx
component_at WholeByte bytes start = fixed (signed_byte_at bytes start *ℤ pos 65536)
component_at WholeShort bytes start = fixed (signed_short_at bytes start *ℤ pos 65536)
component_at NormalByte bytes start = normal_component 255 (signed_byte_at bytes start)
component_at NormalShort bytes start = normal_component 65535 (signed_short_at bytes start)
component_at ColorByte bytes start = fixed_from_byte (slice_index bytes start)
component_at Fixed bytes start = fixed (cast_signed w32 (from_le_bytes w32 (four_at bytes start)))
