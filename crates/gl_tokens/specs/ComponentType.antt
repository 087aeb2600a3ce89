-- Types of an array's components (OpenGL ES 1.1.12, 2.8).
use Rattle.std.specs.Prelude.{ℕ, List, [], ◌∷◌, Option}
use Rattle.gl_tokens.specs.declared.component_type.ComponentType.{ComponentType}
use Rattle.gl_tokens.specs.declared.component_type.ComponentType.TheVariants.{Byte, UnsignedByte, Short, UnsignedShort, Fixed}
use Rattle.gl_tokens.specs.Coded.{coded}

abbrev pub code_of : ComponentType → ℕ
code_of Byte = 0x1400
code_of UnsignedByte = 0x1401
code_of Short = 0x1402
code_of UnsignedShort = 0x1403
code_of Fixed = 0x140C

abbrev pub family : List ComponentType
family = Byte ∷ UnsignedByte ∷ Short ∷ UnsignedShort ∷ Fixed ∷ []

abbrev pub from_code_of : ℕ → Option ComponentType
from_code_of = coded code_of family
