-- Modes of drawing (OpenGL ES 1.1.12, 2.6.1).
use Rattle.std.specs.Prelude.{ℕ, List, [], ◌∷◌, Option}
use Rattle.gl_tokens.specs.declared.mode.Mode.{Mode}
use Rattle.gl_tokens.specs.declared.mode.Mode.TheVariants.{Points, Lines, LineLoop, LineStrip, Triangles, TriangleStrip, TriangleFan}
use Rattle.gl_tokens.specs.Coded.{coded}

abbrev pub code_of : Mode → ℕ
code_of Points = 0x0000
code_of Lines = 0x0001
code_of LineLoop = 0x0002
code_of LineStrip = 0x0003
code_of Triangles = 0x0004
code_of TriangleStrip = 0x0005
code_of TriangleFan = 0x0006

abbrev pub family : List Mode
family = Points ∷ Lines ∷ LineLoop ∷ LineStrip ∷ Triangles ∷ TriangleStrip ∷ TriangleFan ∷ []

abbrev pub from_code_of : ℕ → Option Mode
from_code_of = coded code_of family
