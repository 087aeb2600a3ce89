-- A command that makes an error changes nothing.
use Rattle.std.proofs.Common.{◌≡◌, ◌≢◌, ◌∙◌, Option, None, Result, Ok, Err, refl, ap}
use Rattle.gl_tokens.specs.declared.gl_error.GlError.{GlError}
use Rattle.gl_tokens.specs.Commands.{done, within}

-- a command on a state leaves it as it was where it makes an error
abbrev pub Stays : {S : Type 0} → S → S × Option GlError → Type 0
Stays old answer = answer.1 ≢ None → answer.0 ≡ old

-- so does every command that answers by `done`
pub done-stays : {S : Type 0} (old : S) (result : Result S GlError) → Stays old (done old result)
done-stays old (Ok new) some = absurd (some refl)
done-stays old (Err error) some = refl

-- and a command on a part, which leaves that part as it was, leaves the whole so
pub within-stays : {P S : Type 0} (put : P → S) (part : P) (old : S) (answer : P × Option GlError) → put part ≡ old → Stays part answer → Stays old (within put answer)
within-stays put part old answer same stays some = ap put (stays some) ∙ same
