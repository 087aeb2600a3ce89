-- Filters of textures (OpenGL ES 1.1.12, 3.7).
use Rattle.std.specs.Prelude.{ℕ, List, [], ◌∷◌, Option}
use Rattle.gl_tokens.specs.declared.filter.Filter.{Filter}
use Rattle.gl_tokens.specs.declared.filter.Filter.TheVariants.{Nearest, Linear, NearestMipmapNearest, LinearMipmapNearest, NearestMipmapLinear, LinearMipmapLinear}
use Rattle.gl_tokens.specs.Coded.{coded}

abbrev pub code_of : Filter → ℕ
code_of Nearest = 0x2600
code_of Linear = 0x2601
code_of NearestMipmapNearest = 0x2700
code_of LinearMipmapNearest = 0x2701
code_of NearestMipmapLinear = 0x2702
code_of LinearMipmapLinear = 0x2703

abbrev pub family : List Filter
family = Nearest ∷ Linear ∷ NearestMipmapNearest ∷ LinearMipmapNearest ∷ NearestMipmapLinear ∷ LinearMipmapLinear ∷ []

abbrev pub from_code_of : ℕ → Option Filter
from_code_of = coded code_of family
