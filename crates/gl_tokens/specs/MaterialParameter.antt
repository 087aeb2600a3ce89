-- Parameters of the material (OpenGL ES 1.1.12, 2.12.2).
use Rattle.std.specs.Prelude.{ℕ, List, [], ◌∷◌, Option}
use Rattle.gl_tokens.specs.declared.material_parameter.MaterialParameter.{MaterialParameter}
use Rattle.gl_tokens.specs.declared.material_parameter.MaterialParameter.TheVariants.{Ambient, Diffuse, Specular, Emission, Shininess, AmbientAndDiffuse}
use Rattle.gl_tokens.specs.Coded.{coded}

abbrev pub code_of : MaterialParameter → ℕ
code_of Ambient = 0x1200
code_of Diffuse = 0x1201
code_of Specular = 0x1202
code_of Emission = 0x1600
code_of Shininess = 0x1601
code_of AmbientAndDiffuse = 0x1602

abbrev pub family : List MaterialParameter
family = Ambient ∷ Diffuse ∷ Specular ∷ Emission ∷ Shininess ∷ AmbientAndDiffuse ∷ []

abbrev pub from_code_of : ℕ → Option MaterialParameter
from_code_of = coded code_of family
