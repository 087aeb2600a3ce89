-- Parameters of a light (OpenGL ES 1.1.12, 2.12.2).
use Rattle.std.specs.Prelude.{ℕ, List, [], ◌∷◌, Option}
use Rattle.gl_tokens.specs.declared.light_parameter.LightParameter.{LightParameter}
use Rattle.gl_tokens.specs.declared.light_parameter.LightParameter.TheVariants.{Ambient, Diffuse, Specular, Position, SpotDirection, SpotExponent, SpotCutoff, ConstantAttenuation, LinearAttenuation, QuadraticAttenuation}
use Rattle.gl_tokens.specs.Coded.{coded}

abbrev pub code_of : LightParameter → ℕ
code_of Ambient = 0x1200
code_of Diffuse = 0x1201
code_of Specular = 0x1202
code_of Position = 0x1203
code_of SpotDirection = 0x1204
code_of SpotExponent = 0x1205
code_of SpotCutoff = 0x1206
code_of ConstantAttenuation = 0x1207
code_of LinearAttenuation = 0x1208
code_of QuadraticAttenuation = 0x1209

abbrev pub family : List LightParameter
family =
    Ambient ∷ Diffuse ∷ Specular ∷ Position ∷ SpotDirection ∷ SpotExponent ∷ SpotCutoff ∷ ConstantAttenuation
    ∷ LinearAttenuation ∷ QuadraticAttenuation ∷ []

abbrev pub from_code_of : ℕ → Option LightParameter
from_code_of = coded code_of family
