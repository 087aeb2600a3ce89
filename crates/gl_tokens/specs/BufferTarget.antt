-- What a buffer object is bound for (OpenGL ES 1.1.12, 2.9).
use Rattle.std.specs.Prelude.{ℕ, List, [], ◌∷◌, Option}
use Rattle.gl_tokens.specs.declared.buffer_target.BufferTarget.{BufferTarget}
use Rattle.gl_tokens.specs.declared.buffer_target.BufferTarget.TheVariants.{Array, ElementArray}
use Rattle.gl_tokens.specs.Coded.{coded}

abbrev pub code_of : BufferTarget → ℕ
code_of Array = 0x8892
code_of ElementArray = 0x8893

abbrev pub family : List BufferTarget
family = Array ∷ ElementArray ∷ []

abbrev pub from_code_of : ℕ → Option BufferTarget
from_code_of = coded code_of family
