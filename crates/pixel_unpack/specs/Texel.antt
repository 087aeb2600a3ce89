-- One texel of a piece, by the byte at which it begins (OpenGL ES 1.1.12, 3.6.2 and 3.7.1).
use Rattle.std.specs.Prelude.{ℕ, ◌+◌, Bool, true, false, List, [], ◌∷◌, slice_index}
use Rattle.std.specs.Int.{w32, from_le_bytes}
use Rattle.gl_records.specs.BytesAt.{short_at}
use Rattle.gl_tokens.specs.declared.base_format.BaseFormat.{BaseFormat}
use Rattle.gl_tokens.specs.declared.base_format.BaseFormat.TheVariants.{Alpha, Rgb, Rgba, Luminance, LuminanceAlpha}
use Rattle.gl_tokens.specs.declared.texel_type.TexelType.{TexelType}
use Rattle.gl_tokens.specs.declared.texel_type.TexelType.TheVariants.{UnsignedByte, UnsignedShort4444, UnsignedShort5551, UnsignedShort565}
use Rattle.pixel_unpack.specs.Component.{component}

-- the pairs of format and type that there are
abbrev pub is_pair : BaseFormat → TexelType → Bool
is_pair _ UnsignedByte = true
is_pair Rgba UnsignedShort4444 = true
is_pair Rgba UnsignedShort5551 = true
is_pair Rgb UnsignedShort565 = true
is_pair _ _ = false

-- how many components a format has
abbrev pub component_count : BaseFormat → ℕ
component_count Alpha = 1
component_count Rgb = 3
component_count Rgba = 4
component_count Luminance = 1
component_count LuminanceAlpha = 2

-- how many bytes a texel takes: one for each component, or two for all of them
abbrev pub texel_bytes : BaseFormat → TexelType → ℕ
texel_bytes format UnsignedByte = component_count format
texel_bytes _ UnsignedShort4444 = 2
texel_bytes _ UnsignedShort5551 = 2
texel_bytes _ UnsignedShort565 = 2

-- a texel of these bytes R G B A
abbrev pub rgba : ℕ → ℕ → ℕ → ℕ → ℕ
rgba r g b a = from_le_bytes w32 (r ∷ g ∷ b ∷ a ∷ [])

-- the texel of a byte for each component
abbrev pub byte_texel : BaseFormat → List ℕ → ℕ → ℕ
byte_texel Alpha piece start = rgba 0 0 0 (slice_index piece start)
byte_texel Rgb piece start =
    rgba (slice_index piece start) (slice_index piece (start + 1)) (slice_index piece (start + 2)) 255
byte_texel Rgba piece start =
    rgba (slice_index piece start) (slice_index piece (start + 1)) (slice_index piece (start + 2)) (slice_index piece (start + 3))
byte_texel Luminance piece start = rgba (slice_index piece start) (slice_index piece start) (slice_index piece start) 255
byte_texel LuminanceAlpha piece start =
    rgba (slice_index piece start) (slice_index piece start) (slice_index piece start) (slice_index piece (start + 1))

-- the texels of packed numbers: the first component is in the high bits
abbrev pub texel_4444 : ℕ → ℕ
texel_4444 number = rgba (component 4 12 number) (component 4 8 number) (component 4 4 number) (component 4 0 number)

abbrev pub texel_5551 : ℕ → ℕ
texel_5551 number = rgba (component 5 11 number) (component 5 6 number) (component 5 1 number) (component 1 0 number)

abbrev pub texel_565 : ℕ → ℕ
texel_565 number = rgba (component 5 11 number) (component 6 5 number) (component 5 0 number) 255

-- the texel that begins at this byte of the piece
abbrev pub texel_at : BaseFormat → TexelType → List ℕ → ℕ → ℕ
texel_at format UnsignedByte piece start = byte_texel format piece start
texel_at _ UnsignedShort4444 piece start = texel_4444 (short_at piece start)
texel_at _ UnsignedShort5551 piece start = texel_5551 (short_at piece start)
texel_at _ UnsignedShort565 piece start = texel_565 (short_at piece start)
