-- Error codes (OpenGL ES 1.1.12, 2.5).
use Rattle.std.specs.Prelude.{ℕ, List, [], ◌∷◌, Option}
use Rattle.gl_tokens.specs.declared.gl_error.GlError.{GlError}
use Rattle.gl_tokens.specs.declared.gl_error.GlError.TheVariants.{InvalidEnum, InvalidValue, InvalidOperation, StackOverflow, StackUnderflow, OutOfMemory}
use Rattle.gl_tokens.specs.Coded.{coded}

abbrev pub code_of : GlError → ℕ
code_of InvalidEnum = 0x0500
code_of InvalidValue = 0x0501
code_of InvalidOperation = 0x0502
code_of StackOverflow = 0x0503
code_of StackUnderflow = 0x0504
code_of OutOfMemory = 0x0505

abbrev pub family : List GlError
family = InvalidEnum ∷ InvalidValue ∷ InvalidOperation ∷ StackOverflow ∷ StackUnderflow ∷ OutOfMemory ∷ []

abbrev pub from_code_of : ℕ → Option GlError
from_code_of = coded code_of family
