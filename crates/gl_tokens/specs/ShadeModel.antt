-- Shade models (OpenGL ES 1.1.12, 2.12.6).
use Rattle.std.specs.Prelude.{ℕ, List, [], ◌∷◌, Option}
use Rattle.gl_tokens.specs.declared.shade_model.ShadeModel.{ShadeModel}
use Rattle.gl_tokens.specs.declared.shade_model.ShadeModel.TheVariants.{Flat, Smooth}
use Rattle.gl_tokens.specs.Coded.{coded}

abbrev pub code_of : ShadeModel → ℕ
code_of Flat = 0x1D00
code_of Smooth = 0x1D01

abbrev pub family : List ShadeModel
family = Flat ∷ Smooth ∷ []

abbrev pub from_code_of : ℕ → Option ShadeModel
from_code_of = coded code_of family
