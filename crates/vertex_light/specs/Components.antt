-- Vectors and colours R G B, component by component. Sums and differences saturate, and products are rounded down
-- (the rounding is this project's own).
use Rattle.std.specs.Prelude.{ℕ, ℤ, pos, ◌/◌, List, [], ◌∷◌, int_lt, if◌then◌else◌, unsigned_abs}
use Rattle.fx_arith.specs.declared.fx.Fx.{Fx}
use Rattle.fx_arith.specs.Number.{add, component, div, fixed, mul, sub}

-- the vector whose component k is f k
abbrev pub three : (ℕ → ℤ) → List Fx
three f = fixed (f 0) ∷ fixed (f 1) ∷ fixed (f 2) ∷ []

-- the first three components
unfoldable pub first_three : List Fx → List Fx
first_three a = three (component a)

unfoldable pub sums : List Fx → List Fx → List Fx
sums a b = three (λ k. add (component a k) (component b k))

unfoldable pub differences : List Fx → List Fx → List Fx
differences a b = three (λ k. sub (component a k) (component b k))

unfoldable pub products : List Fx → List Fx → List Fx
products a b = three (λ k. mul (component a k) (component b k))

-- each component times a number, and over one that isn't 0
unfoldable pub scaled : List Fx → ℤ → List Fx
scaled a by = three (λ k. mul (component a k) by)

unfoldable pub over : List Fx → ℤ → List Fx
over a divisor = three (λ k. div (component a k) divisor)

-- the vector the other way round
unfoldable pub reversed : List Fx → List Fx
reversed a = three (λ k. sub (pos 0) (component a k))

-- a number, or 0 where it is below
abbrev pub at_least_zero : ℤ → ℤ
at_least_zero z = if int_lt z (pos 0) then pos 0 else z

-- the whole part of a GLfixed that isn't negative
abbrev pub whole : Fx → ℕ
whole a = unsigned_abs a.0 / 65536
