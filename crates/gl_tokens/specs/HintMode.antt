-- What hints ask for (OpenGL ES 1.1.12, 5.6).
use Rattle.std.specs.Prelude.{ℕ, List, [], ◌∷◌, Option}
use Rattle.gl_tokens.specs.declared.hint_mode.HintMode.{HintMode}
use Rattle.gl_tokens.specs.declared.hint_mode.HintMode.TheVariants.{DontCare, Fastest, Nicest}
use Rattle.gl_tokens.specs.Coded.{coded}

abbrev pub code_of : HintMode → ℕ
code_of DontCare = 0x1100
code_of Fastest = 0x1101
code_of Nicest = 0x1102

abbrev pub family : List HintMode
family = DontCare ∷ Fastest ∷ Nicest ∷ []

abbrev pub from_code_of : ℕ → Option HintMode
from_code_of = coded code_of family
