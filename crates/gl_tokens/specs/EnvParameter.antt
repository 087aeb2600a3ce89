-- Parameters of a texture environment (OpenGL ES 1.1.12, 3.7.12).
use Rattle.std.specs.Prelude.{ℕ, List, [], ◌∷◌, Option}
use Rattle.gl_tokens.specs.declared.env_parameter.EnvParameter.{EnvParameter}
use Rattle.gl_tokens.specs.declared.env_parameter.EnvParameter.TheVariants.{AlphaScale, Mode, Color, CombineRgb, CombineAlpha, RgbScale, Source0Rgb, Source1Rgb, Source2Rgb, Source0Alpha, Source1Alpha, Source2Alpha, Operand0Rgb, Operand1Rgb, Operand2Rgb, Operand0Alpha, Operand1Alpha, Operand2Alpha}
use Rattle.gl_tokens.specs.Coded.{coded}

abbrev pub code_of : EnvParameter → ℕ
code_of AlphaScale = 0x0D1C
code_of Mode = 0x2200
code_of Color = 0x2201
code_of CombineRgb = 0x8571
code_of CombineAlpha = 0x8572
code_of RgbScale = 0x8573
code_of Source0Rgb = 0x8580
code_of Source1Rgb = 0x8581
code_of Source2Rgb = 0x8582
code_of Source0Alpha = 0x8588
code_of Source1Alpha = 0x8589
code_of Source2Alpha = 0x858A
code_of Operand0Rgb = 0x8590
code_of Operand1Rgb = 0x8591
code_of Operand2Rgb = 0x8592
code_of Operand0Alpha = 0x8598
code_of Operand1Alpha = 0x8599
code_of Operand2Alpha = 0x859A

abbrev pub family : List EnvParameter
family = AlphaScale ∷ Mode ∷ Color ∷ CombineRgb ∷ CombineAlpha ∷ RgbScale ∷ Source0Rgb ∷ Source1Rgb ∷ Source2Rgb ∷ Source0Alpha ∷ Source1Alpha ∷ Source2Alpha ∷ Operand0Rgb ∷ Operand1Rgb ∷ Operand2Rgb ∷ Operand0Alpha ∷ Operand1Alpha ∷ Operand2Alpha ∷ []

abbrev pub from_code_of : ℕ → Option EnvParameter
from_code_of = coded code_of family
