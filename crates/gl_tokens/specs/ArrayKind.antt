-- Vertex arrays (OpenGL ES 1.1.12, 2.8).
use Rattle.std.specs.Prelude.{ℕ, List, [], ◌∷◌, Option}
use Rattle.gl_tokens.specs.declared.array_kind.ArrayKind.{ArrayKind}
use Rattle.gl_tokens.specs.declared.array_kind.ArrayKind.TheVariants.{Vertex, Normal, Color, TextureCoord}
use Rattle.gl_tokens.specs.Coded.{coded}

abbrev pub code_of : ArrayKind → ℕ
code_of Vertex = 0x8074
code_of Normal = 0x8075
code_of Color = 0x8076
code_of TextureCoord = 0x8078

abbrev pub family : List ArrayKind
family = Vertex ∷ Normal ∷ Color ∷ TextureCoord ∷ []

abbrev pub from_code_of : ℕ → Option ArrayKind
from_code_of = coded code_of family
