-- Normals, directions and planes in eye coordinates, by the upper three rows and columns of the modelview matrix
-- (OpenGL ES 1.1.12, 2.10.3 and 2.11). All is exact on raw numbers until a component is rounded down and
-- saturated, which is this project's own.
use Rattle.std.specs.Prelude.{ℕ, ℤ, pos, ◌+◌, ◌%◌, ◌==◌, ◌+ℤ◌, ◌-ℤ◌, ◌*ℤ◌, List, [], ◌∷◌, ◌++◌, if◌then◌else◌}
use Rattle.std.specs.Ordering.{int_eq}
use Rattle.fx_arith.specs.declared.fx.Fx.{Fx}
use Rattle.fx_arith.specs.declared.mat4.Mat4.{Mat4}
use Rattle.fx_arith.specs.Matrix.{entry, column}
use Rattle.fx_arith.specs.Number.{component, dot3, fixed, floor_quotient, nearest_fixed, one, sub}
use Rattle.fx_arith.specs.Vector.{len3}
use Rattle.fx_arith.specs.Vector as vector

-- the cofactor of row i and column j: the determinant of the other two rows and columns, each in the order
-- in which they follow i and j round
unfoldable pub cofactor : Mat4 → ℕ → ℕ → ℤ
cofactor m i j =
    entry m ((i + 1) % 3) ((j + 1) % 3) *ℤ entry m ((i + 2) % 3) ((j + 2) % 3)
    -ℤ entry m ((i + 1) % 3) ((j + 2) % 3) *ℤ entry m ((i + 2) % 3) ((j + 1) % 3)

-- the determinant, by the entries of row 0
unfoldable pub determinant : Mat4 → ℤ
determinant m = cofactor m 0 0 *ℤ entry m 0 0 +ℤ cofactor m 0 1 *ℤ entry m 0 1 +ℤ cofactor m 0 2 *ℤ entry m 0 2

-- row i of the cofactors times a vector
unfoldable pub along_row : Mat4 → ℕ → List Fx → ℤ
along_row m i v = cofactor m i 0 *ℤ component v 0 +ℤ cofactor m i 1 *ℤ component v 1 +ℤ cofactor m i 2 *ℤ component v 2

-- a sum over the determinant, as a GLfixed
unfoldable pub over_determinant : ℤ → ℤ → ℤ
over_determinant sum det = nearest_fixed (floor_quotient (one *ℤ sum) det)

-- component i of a normal times the inverse of the matrix
abbrev pub normal_component : Mat4 → List Fx → ℕ → Fx
normal_component m n i = fixed (over_determinant (along_row m i n) (determinant m))

-- a normal in eye coordinates; where the matrix has no inverse it stays
unfoldable pub normal_to_eye : Mat4 → List Fx → List Fx
normal_to_eye m n =
    if int_eq (determinant m) (pos 0) then n else normal_component m n 0 ∷ normal_component m n 1 ∷ normal_component m n 2 ∷ []

-- the third row of the inverse, each entry as a GLfixed
unfoldable pub inverse_third_row : Mat4 → List Fx
inverse_third_row m =
    fixed (over_determinant (cofactor m 0 2 *ℤ one) (determinant m))
    ∷ fixed (over_determinant (cofactor m 1 2 *ℤ one) (determinant m))
    ∷ fixed (over_determinant (cofactor m 2 2 *ℤ one) (determinant m)) ∷ []

-- a vector over a length; over a length of 0 it stays
unfoldable pub over_length : List Fx → ℕ → List Fx
over_length v length = if length == 0 then v else vector.over_length v length 0 ∷ vector.over_length v length 1 ∷ vector.over_length v length 2 ∷ []

-- what RESCALE_NORMAL divides by: the length of the third row of the inverse, and 0 where there is no inverse
unfoldable pub rescale_length : Mat4 → ℕ
rescale_length m = if int_eq (determinant m) (pos 0) then 0 else len3 (inverse_third_row m)

-- RESCALE_NORMAL: a normal in eye coordinates over that length; it stays where the matrix has no inverse, or the length is 0
-- (OpenGL ES 1.1.12, 2.10.3)
unfoldable pub rescaled_normal : Mat4 → List Fx → List Fx
rescaled_normal m n = over_length n (rescale_length m)

-- the first three entries of row i
abbrev pub upper_row : Mat4 → ℕ → List Fx
upper_row m i = fixed (entry m i 0) ∷ fixed (entry m i 1) ∷ fixed (entry m i 2) ∷ []

-- a direction in eye coordinates: the upper three rows and columns times the direction (OpenGL ES 1.1.12, 2.12.1)
unfoldable pub direction_to_eye : Mat4 → List Fx → List Fx
direction_to_eye m v = fixed (dot3 (upper_row m 0) v) ∷ fixed (dot3 (upper_row m 1) v) ∷ fixed (dot3 (upper_row m 2) v) ∷ []

-- the first three components of a vector
abbrev pub first_three : List Fx → List Fx
first_three v = fixed (component v 0) ∷ fixed (component v 1) ∷ fixed (component v 2) ∷ []

-- the translation of a matrix
abbrev pub translation : Mat4 → List Fx
translation m = first_three (column m 3)

-- a plane a x + b y + c z + d = 0 in eye coordinates: (a, b, c) as a normal, and d less its product with the
-- translation; the matrix's last row is taken as 0 0 0 1
unfoldable pub plane_to_eye : Mat4 → List Fx → List Fx
plane_to_eye m plane =
    let n = normal_to_eye m (first_three plane) in
    first_three n ++ fixed (sub (component plane 3) (dot3 n (translation m))) ∷ []
