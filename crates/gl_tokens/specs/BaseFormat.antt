-- Formats of images (OpenGL ES 1.1.12, 3.7.1).
use Rattle.std.specs.Prelude.{ℕ, List, [], ◌∷◌, Option}
use Rattle.gl_tokens.specs.declared.base_format.BaseFormat.{BaseFormat}
use Rattle.gl_tokens.specs.declared.base_format.BaseFormat.TheVariants.{Alpha, Rgb, Rgba, Luminance, LuminanceAlpha}
use Rattle.gl_tokens.specs.Coded.{coded}

abbrev pub code_of : BaseFormat → ℕ
code_of Alpha = 0x1906
code_of Rgb = 0x1907
code_of Rgba = 0x1908
code_of Luminance = 0x1909
code_of LuminanceAlpha = 0x190A

abbrev pub family : List BaseFormat
family = Alpha ∷ Rgb ∷ Rgba ∷ Luminance ∷ LuminanceAlpha ∷ []

abbrev pub from_code_of : ℕ → Option BaseFormat
from_code_of = coded code_of family
