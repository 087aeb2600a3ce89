-- The commands of the matrix stacks (OpenGL ES 1.1.12, 2.10.2).
use Rattle.std.specs.Prelude.{ℕ, [], ◌∷◌, Option, Ok}
use Rattle.fx_arith.specs.declared.mat4.Mat4.{Mat4}
use Rattle.gl_records.specs.declared.params.Columns.{Columns}
use Rattle.gl_tokens.specs.Commands.{done, known, ◌>>=◌}
use Rattle.gl_tokens.specs.MatrixMode as matrix_modes
use Rattle.gl_tokens.specs.declared.gl_error.GlError.{GlError}
use Rattle.matrix_stacks.specs.Stacks.{Matrices}

-- the matrix that a command gives, column by column
abbrev pub matrix_of : Columns → Mat4
matrix_of c = record {
  0 = c.0.0 ∷ c.0.1 ∷ c.0.2 ∷ c.0.3 ∷ c.1.0 ∷ c.1.1 ∷ c.1.2 ∷ c.1.3
      ∷ c.2.0 ∷ c.2.1 ∷ c.2.2 ∷ c.2.3 ∷ c.3.0 ∷ c.3.1 ∷ c.3.2 ∷ c.3.3 ∷ [];
}

-- MatrixMode
abbrev pub matrix_mode : Matrices → ℕ → Matrices × Option GlError
matrix_mode s code = done s do
  mode ← known (matrix_modes.from_code_of code)
  Ok (record s { mode = mode })
