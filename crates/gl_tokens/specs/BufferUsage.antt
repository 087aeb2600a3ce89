-- How the bytes of a buffer object are expected to be used (OpenGL ES 1.1.12, 2.9).
use Rattle.std.specs.Prelude.{ℕ, List, [], ◌∷◌, Option}
use Rattle.gl_tokens.specs.declared.buffer_usage.BufferUsage.{BufferUsage}
use Rattle.gl_tokens.specs.declared.buffer_usage.BufferUsage.TheVariants.{StaticDraw, DynamicDraw}
use Rattle.gl_tokens.specs.Coded.{coded}

abbrev pub code_of : BufferUsage → ℕ
code_of StaticDraw = 0x88E4
code_of DynamicDraw = 0x88E8

abbrev pub family : List BufferUsage
family = StaticDraw ∷ DynamicDraw ∷ []

abbrev pub from_code_of : ℕ → Option BufferUsage
from_code_of = coded code_of family
