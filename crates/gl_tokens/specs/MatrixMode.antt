-- Kinds of matrices (OpenGL ES 1.1.12, 2.10.2).
use Rattle.std.specs.Prelude.{ℕ, List, [], ◌∷◌, Option}
use Rattle.gl_tokens.specs.declared.matrix_mode.MatrixMode.{MatrixMode}
use Rattle.gl_tokens.specs.declared.matrix_mode.MatrixMode.TheVariants.{Modelview, Projection, Texture}
use Rattle.gl_tokens.specs.Coded.{coded}

abbrev pub code_of : MatrixMode → ℕ
code_of Modelview = 0x1700
code_of Projection = 0x1701
code_of Texture = 0x1702

abbrev pub family : List MatrixMode
family = Modelview ∷ Projection ∷ Texture ∷ []

abbrev pub from_code_of : ℕ → Option MatrixMode
from_code_of = coded code_of family
