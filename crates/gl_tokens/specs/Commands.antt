-- How a command answers: the state after it, and the error that it leaves in the error flag
-- (OpenGL ES 1.1.12, 2.5).
use Rattle.std.specs.Prelude.{Bool, true, false, Option, Some, None, Result, Ok, Err}
use Rattle.gl_tokens.specs.declared.gl_error.GlError.{GlError}
use Rattle.gl_tokens.specs.declared.gl_error.GlError.TheVariants.{InvalidEnum}

-- an error changes nothing
abbrev pub done : {S : Type 0} → S → Result S GlError → S × Option GlError
done old (Ok new) = (new, None)
done old (Err error) = (old, Some error)

-- this error where the test holds, else what comes after it
abbrev pub unless : {A : Type 0} → Bool → GlError → Result A GlError → Result A GlError
unless true error after = Err error
unless false error after = after

-- the value that a code stands for: InvalidEnum where it stands for none
abbrev pub known : {A : Type 0} → Option A → Result A GlError
known (Some value) = Ok value
known None = Err InvalidEnum

-- the second step where the first gave a value, else the first one's error
infixl 10 ◌>>=◌
abbrev pub ◌>>=◌ : {A B : Type 0} → Result A GlError → (A → Result B GlError) → Result B GlError
Ok value >>= next = next value
Err error >>= next = Err error

-- a command on a part of a state: the state with that part as the command leaves it, and the command's error
abbrev pub within : {P S : Type 0} → (P → S) → P × Option GlError → S × Option GlError
within put answer = (put answer.0, answer.1)
