-- Sources of a combining texture environment (OpenGL ES 1.1.12, 3.7).
use Rattle.std.specs.Prelude.{ℕ, List, [], ◌∷◌, Option}
use Rattle.gl_tokens.specs.declared.combine_source.CombineSource.{CombineSource}
use Rattle.gl_tokens.specs.declared.combine_source.CombineSource.TheVariants.{Texture, Constant, PrimaryColor, Previous}
use Rattle.gl_tokens.specs.Coded.{coded}

abbrev pub code_of : CombineSource → ℕ
code_of Texture = 0x1702
code_of Constant = 0x8576
code_of PrimaryColor = 0x8577
code_of Previous = 0x8578

abbrev pub family : List CombineSource
family = Texture ∷ Constant ∷ PrimaryColor ∷ Previous ∷ []

abbrev pub from_code_of : ℕ → Option CombineSource
from_code_of = coded code_of family
