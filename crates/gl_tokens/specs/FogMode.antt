-- Modes of fog (OpenGL ES 1.1.12, 3.8).
use Rattle.std.specs.Prelude.{ℕ, List, [], ◌∷◌, Option}
use Rattle.gl_tokens.specs.declared.fog_mode.FogMode.{FogMode}
use Rattle.gl_tokens.specs.declared.fog_mode.FogMode.TheVariants.{Exp, Exp2, Linear}
use Rattle.gl_tokens.specs.Coded.{coded}

abbrev pub code_of : FogMode → ℕ
code_of Exp = 0x0800
code_of Exp2 = 0x0801
code_of Linear = 0x2601

abbrev pub family : List FogMode
family = Exp ∷ Exp2 ∷ Linear ∷ []

abbrev pub from_code_of : ℕ → Option FogMode
from_code_of = coded code_of family
