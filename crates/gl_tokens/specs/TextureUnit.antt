-- Texture units (OpenGL ES 1.1.12, 2.7 and 3.7).
use Rattle.std.specs.Prelude.{ℕ, List, [], ◌∷◌, Option}
use Rattle.gl_tokens.specs.declared.texture_unit.TextureUnit.{TextureUnit}
use Rattle.gl_tokens.specs.declared.texture_unit.TextureUnit.TheVariants.{Texture0, Texture1}
use Rattle.gl_tokens.specs.Coded.{coded}

abbrev pub code_of : TextureUnit → ℕ
code_of Texture0 = 0x84C0
code_of Texture1 = 0x84C1

abbrev pub family : List TextureUnit
family = Texture0 ∷ Texture1 ∷ []

abbrev pub from_code_of : ℕ → Option TextureUnit
from_code_of = coded code_of family
