-- Products of matrices (OpenGL ES 1.1.12, 2.10.2).
use Rattle.std.specs.Prelude.{List, [], ◌∷◌}
use Rattle.fx_arith.specs.declared.fx.Fx.{Fx}
use Rattle.fx_arith.specs.declared.mat4.Mat4.{Mat4}
use Rattle.fx_arith.specs.Matrix.{row, column, matrix}
use Rattle.fx_arith.specs.Number.{dot4, fixed}

-- a matrix times a column vector: the inner product of each row with the vector
unfoldable pub transformed : Mat4 → List Fx → List Fx
transformed m v = fixed (dot4 (row m 0) v) ∷ fixed (dot4 (row m 1) v) ∷ fixed (dot4 (row m 2) v) ∷ fixed (dot4 (row m 3) v) ∷ []

-- a matrix times a matrix: each entry is the inner product of a row of the first and a column of the second
unfoldable pub product : Mat4 → Mat4 → Mat4
product a b = matrix (λ i j. dot4 (row a i) (column b j))
