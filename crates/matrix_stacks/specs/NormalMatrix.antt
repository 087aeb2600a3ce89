-- What is computed once of a modelview matrix, for all normals of a draw.
use Rattle.std.specs.Prelude.{◌≡◌, ◌<◌, ◌≤◌, ◌*◌, ◌^◌, ℕ, ℤ, unsigned_abs}
use Rattle.fx_arith.specs.declared.mat4.Mat4.{Mat4}
use Rattle.matrix_stacks.specs.declared.normal_matrix.CofactorRow.{CofactorRow}
use Rattle.matrix_stacks.specs.Eye.{cofactor, determinant, rescale_length}

-- row i of the cofactors
pub record IsCofactorRow (m : Mat4) (i : ℕ) (row : CofactorRow) : Type 0 where
  pub x : row.x ≡ cofactor m i 0
  pub y : row.y ≡ cofactor m i 1
  pub z : row.z ≡ cofactor m i 2
  pub x_bound : unsigned_abs row.x ≤ 2 ^ 63
  pub y_bound : unsigned_abs row.y ≤ 2 ^ 63
  pub z_bound : unsigned_abs row.z ≤ 2 ^ 63

pub record IsNormalMatrix (m : Mat4) (r0 r1 r2 : CofactorRow) (det : ℤ) (over : ℕ) : Type 0 where
  pub first : IsCofactorRow m 0 r0
  pub second : IsCofactorRow m 1 r1
  pub third : IsCofactorRow m 2 r2
  pub determinant_is : det ≡ determinant m
  pub determinant_bound : unsigned_abs det ≤ 3 * 2 ^ 94
  pub length_is : over ≡ rescale_length m
  pub length_bound : over < 2 ^ 32
