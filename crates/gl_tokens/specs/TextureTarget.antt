-- What commands of textures speak of (OpenGL ES 1.1.12, 3.7.1).
use Rattle.std.specs.Prelude.{ℕ, List, [], ◌∷◌, Option}
use Rattle.gl_tokens.specs.declared.texture_target.TextureTarget.{TextureTarget}
use Rattle.gl_tokens.specs.declared.texture_target.TextureTarget.TheVariants.{Texture2D}
use Rattle.gl_tokens.specs.Coded.{coded}

abbrev pub code_of : TextureTarget → ℕ
code_of Texture2D = 0x0DE1

abbrev pub family : List TextureTarget
family = Texture2D ∷ []

abbrev pub from_code_of : ℕ → Option TextureTarget
from_code_of = coded code_of family
