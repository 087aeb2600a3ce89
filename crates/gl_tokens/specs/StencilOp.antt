-- What the stencil test does to the stored value (OpenGL ES 1.1.12, 4.1).
use Rattle.std.specs.Prelude.{ℕ, List, [], ◌∷◌, Option}
use Rattle.gl_tokens.specs.declared.stencil_op.StencilOp.{StencilOp}
use Rattle.gl_tokens.specs.declared.stencil_op.StencilOp.TheVariants.{Zero, Invert, Keep, Replace, Increment, Decrement}
use Rattle.gl_tokens.specs.Coded.{coded}

abbrev pub code_of : StencilOp → ℕ
code_of Zero = 0x0000
code_of Invert = 0x150A
code_of Keep = 0x1E00
code_of Replace = 0x1E01
code_of Increment = 0x1E02
code_of Decrement = 0x1E03

abbrev pub family : List StencilOp
family = Zero ∷ Invert ∷ Keep ∷ Replace ∷ Increment ∷ Decrement ∷ []

abbrev pub from_code_of : ℕ → Option StencilOp
from_code_of = coded code_of family
