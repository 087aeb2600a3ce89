-- Parameters of texture objects (OpenGL ES 1.1.12, 3.7.4).
use Rattle.std.specs.Prelude.{ℕ, List, [], ◌∷◌, Option}
use Rattle.gl_tokens.specs.declared.texture_parameter.TextureParameter.{TextureParameter}
use Rattle.gl_tokens.specs.declared.texture_parameter.TextureParameter.TheVariants.{MagFilter, MinFilter, WrapS, WrapT, GenerateMipmap}
use Rattle.gl_tokens.specs.Coded.{coded}

abbrev pub code_of : TextureParameter → ℕ
code_of MagFilter = 0x2800
code_of MinFilter = 0x2801
code_of WrapS = 0x2802
code_of WrapT = 0x2803
code_of GenerateMipmap = 0x8191

abbrev pub family : List TextureParameter
family = MagFilter ∷ MinFilter ∷ WrapS ∷ WrapT ∷ GenerateMipmap ∷ []

abbrev pub from_code_of : ℕ → Option TextureParameter
from_code_of = coded code_of family
