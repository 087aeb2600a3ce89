-- What is kept as the numbers that a query answers: a GLfixed as its raw number, a truth value as 1 or 0, a code or a
-- byte as itself.
use Rattle.std.specs.Prelude.{ℕ, ℤ, pos, Bool, List, [], ◌∷◌, Option, Some, None, Result, Ok, Err, map, if◌then◌else◌}
use Rattle.arrayvec.specs.ArrayVec.{ArrayVec}
use Rattle.fx_arith.specs.declared.fx.Fx.{Fx}
use Rattle.gl_tokens.specs.declared.gl_error.GlError.{GlError}

abbrev pub raw : Fx → ℤ
raw number = number.0

abbrev pub raws : List Fx → List ℤ
raws numbers = map (λ number. number.0) numbers

abbrev pub truth : Bool → ℤ
truth flag = if flag then pos 1 else pos 0

-- one number
abbrev pub one : ℤ → List ℤ
one number = number ∷ []

abbrev pub code : ℕ → List ℤ
code number = pos number ∷ []

-- the numbers that are answered, as a list
abbrev pub items_of : Option (ArrayVec ℤ) → Option (List ℤ)
items_of (Some values) = Some values.items
items_of None = None

abbrev pub answered : Result (ArrayVec ℤ) GlError → Result (List ℤ) GlError
answered (Ok values) = Ok values.items
answered (Err error) = Err error
