-- Lengths and directions on unbounded whole numbers. Every rounding is this project's own.
use Rattle.std.specs.Prelude.{ℕ, ℤ, pos, zero, suc, ◌+◌, ◌*◌, ◌==◌, List, [], ◌∷◌, nat_le, unsigned_abs, if◌then◌else◌}
use Rattle.fx_arith.specs.declared.fx.Fx.{Fx}
use Rattle.fx_arith.specs.Number.{component, div, fixed}

-- the square root, rounded down: the greatest whole number whose square is at most n. From one n to the
-- next it stays, or is the next number once that one's square is reached
unfoldable pub isqrt : ℕ → ℕ
isqrt zero = 0
isqrt (suc n) =
    if nat_le ((isqrt n + 1) * (isqrt n + 1)) (suc n) then isqrt n + 1 else isqrt n

-- the square of a whole number
abbrev pub square : ℤ → ℕ
square z = unsigned_abs z * unsigned_abs z

-- the length of a vector in units of 1/65536, rounded down
abbrev pub len3 : List Fx → ℕ
len3 v = isqrt (square (component v 0) + square (component v 1) + square (component v 2))

-- component k of a vector over a length
abbrev pub over_length : List Fx → ℕ → ℕ → Fx
over_length v length k = fixed (div (component v k) (pos length))

-- the vector of length 1 in the same direction: each component is divided by the length, and the zero
-- vector stays (OpenGL ES 1.1.12, 2.10.3)
unfoldable pub normalise3 : List Fx → List Fx
normalise3 v =
    if len3 v == 0 then v else over_length v (len3 v) 0 ∷ over_length v (len3 v) 1 ∷ over_length v (len3 v) 2 ∷ []
