-- Factors of blending (OpenGL ES 1.1.12, 4.1).
use Rattle.std.specs.Prelude.{ℕ, List, [], ◌∷◌, Option}
use Rattle.gl_tokens.specs.declared.blend_factor.BlendFactor.{BlendFactor}
use Rattle.gl_tokens.specs.declared.blend_factor.BlendFactor.TheVariants.{Zero, One, SourceColor, OneMinusSourceColor, SourceAlpha, OneMinusSourceAlpha, DestinationAlpha, OneMinusDestinationAlpha, DestinationColor, OneMinusDestinationColor, SourceAlphaSaturate}
use Rattle.gl_tokens.specs.Coded.{coded}

abbrev pub code_of : BlendFactor → ℕ
code_of Zero = 0x0000
code_of One = 0x0001
code_of SourceColor = 0x0300
code_of OneMinusSourceColor = 0x0301
code_of SourceAlpha = 0x0302
code_of OneMinusSourceAlpha = 0x0303
code_of DestinationAlpha = 0x0304
code_of OneMinusDestinationAlpha = 0x0305
code_of DestinationColor = 0x0306
code_of OneMinusDestinationColor = 0x0307
code_of SourceAlphaSaturate = 0x0308

abbrev pub family : List BlendFactor
family = Zero ∷ One ∷ SourceColor ∷ OneMinusSourceColor ∷ SourceAlpha ∷ OneMinusSourceAlpha ∷ DestinationAlpha ∷ OneMinusDestinationAlpha ∷ DestinationColor ∷ OneMinusDestinationColor ∷ SourceAlphaSaturate ∷ []

abbrev pub from_code_of : ℕ → Option BlendFactor
from_code_of = coded code_of family
