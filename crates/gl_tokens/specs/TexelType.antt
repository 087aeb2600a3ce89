-- Types of texels (OpenGL ES 1.1.12, 3.7.1).
use Rattle.std.specs.Prelude.{ℕ, List, [], ◌∷◌, Option}
use Rattle.gl_tokens.specs.declared.texel_type.TexelType.{TexelType}
use Rattle.gl_tokens.specs.declared.texel_type.TexelType.TheVariants.{UnsignedByte, UnsignedShort4444, UnsignedShort5551, UnsignedShort565}
use Rattle.gl_tokens.specs.Coded.{coded}

abbrev pub code_of : TexelType → ℕ
code_of UnsignedByte = 0x1401
code_of UnsignedShort4444 = 0x8033
code_of UnsignedShort5551 = 0x8034
code_of UnsignedShort565 = 0x8363

abbrev pub family : List TexelType
family = UnsignedByte ∷ UnsignedShort4444 ∷ UnsignedShort5551 ∷ UnsignedShort565 ∷ []

abbrev pub from_code_of : ℕ → Option TexelType
from_code_of = coded code_of family
