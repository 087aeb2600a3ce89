-- The matrices of Rotatex, Scalex and Translatex (OpenGL ES 1.1.12, 2.10.2). Every rounding is this project's own.
use Rattle.std.specs.Prelude.{ℤ, pos, List, [], ◌∷◌}
use Rattle.fx_arith.specs.declared.fx.Fx.{Fx}
use Rattle.fx_arith.specs.declared.mat4.Mat4.{Mat4}
use Rattle.fx_arith.specs.Angle.{sine, cosine}
use Rattle.fx_arith.specs.Matrix.{by_rows}
use Rattle.fx_arith.specs.Number.{add, sub, mul, component, one}
use Rattle.fx_arith.specs.Vector.{normalise3}

-- x x (1 - c) + c
unfoldable pub on_diagonal : ℤ → ℤ → ℤ
on_diagonal x c = add (mul (mul x x) (sub one c)) c

-- x y (1 - c) + z s
unfoldable pub with_sine : ℤ → ℤ → ℤ → ℤ → ℤ → ℤ
with_sine x y z c s = add (mul (mul x y) (sub one c)) (mul z s)

-- x y (1 - c) - z s
unfoldable pub less_sine : ℤ → ℤ → ℤ → ℤ → ℤ → ℤ
less_sine x y z c s = sub (mul (mul x y) (sub one c)) (mul z s)

-- counterclockwise about an axis of length 1, by an angle with cosine c and sine s
unfoldable pub rotation_by : List Fx → ℤ → ℤ → Mat4
rotation_by axis c s =
    let x = component axis 0 in
    let y = component axis 1 in
    let z = component axis 2 in
    by_rows
    ((on_diagonal x c ∷ less_sine x y z c s ∷ with_sine x z y c s ∷ pos 0 ∷ []) ∷
    (with_sine x y z c s ∷ on_diagonal y c ∷ less_sine y z x c s ∷ pos 0 ∷ []) ∷
    (less_sine x z y c s ∷ with_sine y z x c s ∷ on_diagonal z c ∷ pos 0 ∷ []) ∷
    (pos 0 ∷ pos 0 ∷ pos 0 ∷ one ∷ []) ∷ [])

-- the rotation by an angle in degrees about an axis of any length
abbrev pub rotation : ℤ → List Fx → Mat4
rotation angle axis = rotation_by (normalise3 axis) (cosine angle) (sine angle)

-- x, y and z multiplied by the components of a vector
abbrev pub scaling : List Fx → Mat4
scaling v = by_rows
    ((component v 0 ∷ pos 0 ∷ pos 0 ∷ pos 0 ∷ []) ∷
    (pos 0 ∷ component v 1 ∷ pos 0 ∷ pos 0 ∷ []) ∷
    (pos 0 ∷ pos 0 ∷ component v 2 ∷ pos 0 ∷ []) ∷
    (pos 0 ∷ pos 0 ∷ pos 0 ∷ one ∷ []) ∷ [])

-- a vector added to x, y and z
abbrev pub translation : List Fx → Mat4
translation v = by_rows
    ((one ∷ pos 0 ∷ pos 0 ∷ component v 0 ∷ []) ∷
    (pos 0 ∷ one ∷ pos 0 ∷ component v 1 ∷ []) ∷
    (pos 0 ∷ pos 0 ∷ one ∷ component v 2 ∷ []) ∷
    (pos 0 ∷ pos 0 ∷ pos 0 ∷ one ∷ []) ∷ [])
