-- Which way round corners go (OpenGL ES 1.1.12, 2.12.1).
use Rattle.std.specs.Prelude.{ℕ, List, [], ◌∷◌, Option}
use Rattle.gl_tokens.specs.declared.winding.Winding.{Winding}
use Rattle.gl_tokens.specs.declared.winding.Winding.TheVariants.{Clockwise, Counterclockwise}
use Rattle.gl_tokens.specs.Coded.{coded}

abbrev pub code_of : Winding → ℕ
code_of Clockwise = 0x0900
code_of Counterclockwise = 0x0901

abbrev pub family : List Winding
family = Clockwise ∷ Counterclockwise ∷ []

abbrev pub from_code_of : ℕ → Option Winding
from_code_of = coded code_of family
