-- Images with a palette (OES_compressed_paletted_texture): the palette's entries, and then the levels, each as
-- indices into it.
use Rattle.std.specs.Prelude.{ℕ, ◌+◌, ◌*◌, ◌/◌, ◌%◌, ◌^◌, ◌==◌, min, max, if◌then◌else◌, List, map, slice_index}
use Rattle.std.specs.List.{sum_by, range_with_len}
use Rattle.gl_tokens.specs.declared.base_format.BaseFormat.{BaseFormat}
use Rattle.gl_tokens.specs.declared.base_format.BaseFormat.TheVariants.{Rgb, Rgba}
use Rattle.gl_tokens.specs.declared.texel_type.TexelType.{TexelType}
use Rattle.gl_tokens.specs.declared.texel_type.TexelType.TheVariants.{UnsignedByte, UnsignedShort4444, UnsignedShort5551, UnsignedShort565}
use Rattle.gl_tokens.specs.declared.palette_format.PaletteFormat.{PaletteFormat}
use Rattle.gl_tokens.specs.declared.palette_format.PaletteFormat.TheVariants.{Palette4Rgb8, Palette4Rgba8, Palette4R5G6B5, Palette4Rgba4, Palette4Rgb5A1, Palette8Rgb8, Palette8Rgba8, Palette8R5G6B5, Palette8Rgba4, Palette8Rgb5A1}
use Rattle.gl_records.specs.declared.level.Level.{Level}
use Rattle.pixel_unpack.specs.Texel.{texel_bytes, texel_at}

-- how many bits an index has
abbrev pub index_bits : PaletteFormat → ℕ
index_bits Palette4Rgb8 = 4
index_bits Palette4Rgba8 = 4
index_bits Palette4R5G6B5 = 4
index_bits Palette4Rgba4 = 4
index_bits Palette4Rgb5A1 = 4
index_bits Palette8Rgb8 = 8
index_bits Palette8Rgba8 = 8
index_bits Palette8R5G6B5 = 8
index_bits Palette8Rgba4 = 8
index_bits Palette8Rgb5A1 = 8

-- the format of an entry, which the image has too
abbrev pub entry_format : PaletteFormat → BaseFormat
entry_format Palette4Rgb8 = Rgb
entry_format Palette4Rgba8 = Rgba
entry_format Palette4R5G6B5 = Rgb
entry_format Palette4Rgba4 = Rgba
entry_format Palette4Rgb5A1 = Rgba
entry_format Palette8Rgb8 = Rgb
entry_format Palette8Rgba8 = Rgba
entry_format Palette8R5G6B5 = Rgb
entry_format Palette8Rgba4 = Rgba
entry_format Palette8Rgb5A1 = Rgba

-- the type of an entry
abbrev pub entry_kind : PaletteFormat → TexelType
entry_kind Palette4Rgb8 = UnsignedByte
entry_kind Palette4Rgba8 = UnsignedByte
entry_kind Palette4R5G6B5 = UnsignedShort565
entry_kind Palette4Rgba4 = UnsignedShort4444
entry_kind Palette4Rgb5A1 = UnsignedShort5551
entry_kind Palette8Rgb8 = UnsignedByte
entry_kind Palette8Rgba8 = UnsignedByte
entry_kind Palette8R5G6B5 = UnsignedShort565
entry_kind Palette8Rgba4 = UnsignedShort4444
entry_kind Palette8Rgb5A1 = UnsignedShort5551

-- how many bytes an entry takes
abbrev pub entry_bytes : PaletteFormat → ℕ
entry_bytes format = texel_bytes (entry_format format) (entry_kind format)

-- the entry of the palette with this index
abbrev pub entry : PaletteFormat → List ℕ → ℕ → ℕ
entry format piece index = texel_at (entry_format format) (entry_kind format) piece (index * entry_bytes format)

-- all entries of the palette, in their order
abbrev pub entries : PaletteFormat → List ℕ → List ℕ
entries format piece = map (λ index. entry format piece index) (range_with_len 0 (2 ^ index_bits format))

-- how many bytes they take
abbrev pub entries_bytes : PaletteFormat → ℕ
entries_bytes format = 2 ^ index_bits format * entry_bytes format

-- index k of a level that begins at this byte. Of two indices in a byte the first has the high bits; a byte outside
-- of the piece is 0.
abbrev pub index_at : ℕ → List ℕ → ℕ → ℕ → ℕ
index_at bits piece start k =
    if bits == 8 then slice_index piece (start + k) else
    if k % 2 == 0 then slice_index piece (start + k / 2) / 16 else slice_index piece (start + k / 2) % 16

-- the texels that so many indices name in a list of entries
abbrev pub named_texels : List ℕ → ℕ → List ℕ → ℕ → ℕ → List ℕ
named_texels palette bits piece start count = map (λ k. slice_index palette (index_at bits piece start k)) (range_with_len 0 count)

-- the texels that so many indices name, the first of them at this byte
abbrev pub level_texels : PaletteFormat → List ℕ → ℕ → ℕ → List ℕ
level_texels format piece start count =
    map (λ k. entry format piece (index_at (index_bits format) piece start k)) (range_with_len 0 count)

-- a level of w by h, whose indices begin at this byte, as an image without a palette
abbrev pub level_at : PaletteFormat → ℕ → ℕ → List ℕ → ℕ → Level
level_at format w h piece start = record {
  w = w;
  h = h;
  format = entry_format format;
  texels = level_texels format piece start (w * h);
}

-- how many bytes the indices of w by h texels take: they run on over the rows
abbrev pub index_bytes : PaletteFormat → ℕ → ℕ → ℕ
index_bytes format w h = (index_bits format * (w * h) + 7) / 8

-- a side of level i: halved i times, rounded down, but never from something to nothing
abbrev pub level_side : ℕ → ℕ → ℕ
level_side side i = min side (max (side / 2 ^ i) 1)

-- how many bytes level i takes
abbrev pub level_bytes : PaletteFormat → ℕ → ℕ → ℕ → ℕ
level_bytes format w h i = index_bytes format (level_side w i) (level_side h i)

-- how many bytes the palette and so many levels take
unfoldable pub palette_size : PaletteFormat → ℕ → ℕ → ℕ → ℕ
palette_size format w h levels = entries_bytes format + sum_by (λ i. level_bytes format w h i) (range_with_len 0 levels)

-- level i, which begins behind the palette and the levels before it
abbrev pub level : PaletteFormat → ℕ → ℕ → List ℕ → ℕ → Level
level format w h piece i = level_at format (level_side w i) (level_side h i) piece (palette_size format w h i)

-- the levels from 0 on
unfoldable pub palette_levels : PaletteFormat → ℕ → ℕ → ℕ → List ℕ → List Level
palette_levels format w h levels piece = map (λ i. level format w h piece i) (range_with_len 0 levels)
