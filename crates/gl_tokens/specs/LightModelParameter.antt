-- Parameters of the lighting model (OpenGL ES 1.1.12, 2.12.2).
use Rattle.std.specs.Prelude.{ℕ, List, [], ◌∷◌, Option}
use Rattle.gl_tokens.specs.declared.light_model_parameter.LightModelParameter.{LightModelParameter}
use Rattle.gl_tokens.specs.declared.light_model_parameter.LightModelParameter.TheVariants.{TwoSide, Ambient}
use Rattle.gl_tokens.specs.Coded.{coded}

abbrev pub code_of : LightModelParameter → ℕ
code_of TwoSide = 0x0B52
code_of Ambient = 0x0B53

abbrev pub family : List LightModelParameter
family = TwoSide ∷ Ambient ∷ []

abbrev pub from_code_of : ℕ → Option LightModelParameter
from_code_of = coded code_of family
