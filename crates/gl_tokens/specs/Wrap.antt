-- How texture coordinates wrap (OpenGL ES 1.1.12, 3.7).
use Rattle.std.specs.Prelude.{ℕ, List, [], ◌∷◌, Option}
use Rattle.gl_tokens.specs.declared.wrap.Wrap.{Wrap}
use Rattle.gl_tokens.specs.declared.wrap.Wrap.TheVariants.{Repeat, ClampToEdge}
use Rattle.gl_tokens.specs.Coded.{coded}

abbrev pub code_of : Wrap → ℕ
code_of Repeat = 0x2901
code_of ClampToEdge = 0x812F

abbrev pub family : List Wrap
family = Repeat ∷ ClampToEdge ∷ []

abbrev pub from_code_of : ℕ → Option Wrap
from_code_of = coded code_of family
