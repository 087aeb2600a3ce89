-- Parameters of fog (OpenGL ES 1.1.12, 3.8).
use Rattle.std.specs.Prelude.{ℕ, List, [], ◌∷◌, Option}
use Rattle.gl_tokens.specs.declared.fog_parameter.FogParameter.{FogParameter}
use Rattle.gl_tokens.specs.declared.fog_parameter.FogParameter.TheVariants.{Density, Start, End, Mode, Color}
use Rattle.gl_tokens.specs.Coded.{coded}

abbrev pub code_of : FogParameter → ℕ
code_of Density = 0x0B62
code_of Start = 0x0B63
code_of End = 0x0B64
code_of Mode = 0x0B65
code_of Color = 0x0B66

abbrev pub family : List FogParameter
family = Density ∷ Start ∷ End ∷ Mode ∷ Color ∷ []

abbrev pub from_code_of : ℕ → Option FogParameter
from_code_of = coded code_of family
