-- Sides of a triangle (OpenGL ES 1.1.12, 2.12.1 and 3.5.1).
use Rattle.std.specs.Prelude.{ℕ, List, [], ◌∷◌, Option}
use Rattle.gl_tokens.specs.declared.face.Face.{Face}
use Rattle.gl_tokens.specs.declared.face.Face.TheVariants.{Front, Back, FrontAndBack}
use Rattle.gl_tokens.specs.Coded.{coded}

abbrev pub code_of : Face → ℕ
code_of Front = 0x0404
code_of Back = 0x0405
code_of FrontAndBack = 0x0408

abbrev pub family : List Face
family = Front ∷ Back ∷ FrontAndBack ∷ []

abbrev pub from_code_of : ℕ → Option Face
from_code_of = coded code_of family
