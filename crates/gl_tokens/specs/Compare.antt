-- Comparisons of the alpha, stencil and depth tests (OpenGL ES 1.1.12, 4.1).
use Rattle.std.specs.Prelude.{ℕ, List, [], ◌∷◌, Option}
use Rattle.gl_tokens.specs.declared.compare.Compare.{Compare}
use Rattle.gl_tokens.specs.declared.compare.Compare.TheVariants.{Never, Less, Equal, LessOrEqual, Greater, NotEqual, GreaterOrEqual, Always}
use Rattle.gl_tokens.specs.Coded.{coded}

abbrev pub code_of : Compare → ℕ
code_of Never = 0x0200
code_of Less = 0x0201
code_of Equal = 0x0202
code_of LessOrEqual = 0x0203
code_of Greater = 0x0204
code_of NotEqual = 0x0205
code_of GreaterOrEqual = 0x0206
code_of Always = 0x0207

abbrev pub family : List Compare
family = Never ∷ Less ∷ Equal ∷ LessOrEqual ∷ Greater ∷ NotEqual ∷ GreaterOrEqual ∷ Always ∷ []

abbrev pub from_code_of : ℕ → Option Compare
from_code_of = coded code_of family
