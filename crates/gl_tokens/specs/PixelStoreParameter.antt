-- Parameters of how rows of pixels lie in memory (OpenGL ES 1.1.12, 3.6.1 and 4.3.1).
use Rattle.std.specs.Prelude.{ℕ, List, [], ◌∷◌, Option}
use Rattle.gl_tokens.specs.declared.pixel_store_parameter.PixelStoreParameter.{PixelStoreParameter}
use Rattle.gl_tokens.specs.declared.pixel_store_parameter.PixelStoreParameter.TheVariants.{UnpackAlignment, PackAlignment}
use Rattle.gl_tokens.specs.Coded.{coded}

abbrev pub code_of : PixelStoreParameter → ℕ
code_of UnpackAlignment = 0x0CF5
code_of PackAlignment = 0x0D05

abbrev pub family : List PixelStoreParameter
family = UnpackAlignment ∷ PackAlignment ∷ []

abbrev pub from_code_of : ℕ → Option PixelStoreParameter
from_code_of = coded code_of family
