-- Formats of images with a palette (OES_compressed_paletted_texture).
use Rattle.std.specs.Prelude.{ℕ, List, [], ◌∷◌, Option}
use Rattle.gl_tokens.specs.declared.palette_format.PaletteFormat.{PaletteFormat}
use Rattle.gl_tokens.specs.declared.palette_format.PaletteFormat.TheVariants.{Palette4Rgb8, Palette4Rgba8, Palette4R5G6B5, Palette4Rgba4, Palette4Rgb5A1, Palette8Rgb8, Palette8Rgba8, Palette8R5G6B5, Palette8Rgba4, Palette8Rgb5A1}
use Rattle.gl_tokens.specs.Coded.{coded}

abbrev pub code_of : PaletteFormat → ℕ
code_of Palette4Rgb8 = 0x8B90
code_of Palette4Rgba8 = 0x8B91
code_of Palette4R5G6B5 = 0x8B92
code_of Palette4Rgba4 = 0x8B93
code_of Palette4Rgb5A1 = 0x8B94
code_of Palette8Rgb8 = 0x8B95
code_of Palette8Rgba8 = 0x8B96
code_of Palette8R5G6B5 = 0x8B97
code_of Palette8Rgba4 = 0x8B98
code_of Palette8Rgb5A1 = 0x8B99

abbrev pub family : List PaletteFormat
family = Palette4Rgb8 ∷ Palette4Rgba8 ∷ Palette4R5G6B5 ∷ Palette4Rgba4 ∷ Palette4Rgb5A1 ∷ Palette8Rgb8 ∷ Palette8Rgba8 ∷ Palette8R5G6B5 ∷ Palette8Rgba4 ∷ Palette8Rgb5A1 ∷ []

abbrev pub from_code_of : ℕ → Option PaletteFormat
from_code_of = coded code_of family
