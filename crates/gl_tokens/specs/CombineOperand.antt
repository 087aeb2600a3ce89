-- Operands of a combining texture environment (OpenGL ES 1.1.12, 3.7).
use Rattle.std.specs.Prelude.{ℕ, List, [], ◌∷◌, Option}
use Rattle.gl_tokens.specs.declared.combine_operand.CombineOperand.{CombineOperand}
use Rattle.gl_tokens.specs.declared.combine_operand.CombineOperand.TheVariants.{SourceColor, OneMinusSourceColor, SourceAlpha, OneMinusSourceAlpha}
use Rattle.gl_tokens.specs.Coded.{coded}

abbrev pub code_of : CombineOperand → ℕ
code_of SourceColor = 0x0300
code_of OneMinusSourceColor = 0x0301
code_of SourceAlpha = 0x0302
code_of OneMinusSourceAlpha = 0x0303

abbrev pub family : List CombineOperand
family = SourceColor ∷ OneMinusSourceColor ∷ SourceAlpha ∷ OneMinusSourceAlpha ∷ []

abbrev pub from_code_of : ℕ → Option CombineOperand
from_code_of = coded code_of family
