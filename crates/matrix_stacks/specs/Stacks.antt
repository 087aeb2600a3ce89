-- The matrix stacks and their commands (OpenGL ES 1.1.12, 2.10.2). A command acts on the current stack.
use Rattle.std.specs.Prelude.{ℕ, ◌==◌, List, [], ◌∷◌, Option, Ok, if◌then◌else◌}
use Rattle.fx_arith.specs.declared.fx.Fx.{Fx}
use Rattle.fx_arith.specs.declared.mat4.Mat4.{Mat4}
use Rattle.fx_arith.specs.Matrix.{identity}
use Rattle.gl_tokens.specs.declared.gl_error.GlError.{GlError}
use Rattle.gl_tokens.specs.declared.gl_error.GlError.TheVariants.{InvalidValue}
use Rattle.gl_tokens.specs.declared.matrix_mode.MatrixMode.{MatrixMode}
use Rattle.gl_tokens.specs.declared.matrix_mode.MatrixMode.TheVariants.{Modelview, Projection, Texture}
use Rattle.gl_tokens.specs.Commands.{done, unless, ◌>>=◌}
use Rattle.matrix_stacks.specs.Product.{product}
use Rattle.matrix_stacks.specs.Projection as projection
use Rattle.matrix_stacks.specs.Stack.{top, with_top, pushed, popped}

-- a stack for each mode, and one for each texture unit; the current mode and unit
pub record Matrices : Type 0 where
  pub mode : MatrixMode
  pub unit : ℕ
  pub modelview : List Mat4
  pub projection : List Mat4
  pub texture0 : List Mat4
  pub texture1 : List Mat4

-- one identity in each
abbrev pub opening_matrices : Matrices
opening_matrices = record {
  mode = Modelview;
  unit = 0;
  modelview = identity ∷ [];
  projection = identity ∷ [];
  texture0 = identity ∷ [];
  texture1 = identity ∷ [];
}

-- how many matrices a stack may have (this project's profile)
abbrev pub limit : MatrixMode → ℕ
limit Modelview = 16
limit Projection = 2
limit Texture = 2

-- the stack of a mode and, for textures, of a unit
abbrev pub stack_of : Matrices → MatrixMode → ℕ → List Mat4
stack_of s Modelview unit = s.modelview
stack_of s Projection unit = s.projection
stack_of s Texture unit = if unit == 0 then s.texture0 else s.texture1

-- the matrices with another such stack
abbrev pub with_stack : Matrices → MatrixMode → ℕ → List Mat4 → Matrices
with_stack s Modelview unit stack = record s { modelview = stack }
with_stack s Projection unit stack = record s { projection = stack }
with_stack s Texture unit stack = if unit == 0 then record s { texture0 = stack } else record s { texture1 = stack }

-- the current stack
abbrev pub current : Matrices → List Mat4
current s = stack_of s s.mode s.unit

abbrev pub with_current : Matrices → List Mat4 → Matrices
with_current s stack = with_stack s s.mode s.unit stack

-- LoadMatrixx: another top
abbrev pub loaded : Matrices → Mat4 → Matrices
loaded s m = with_current s (with_top (current s) m)

-- MultMatrixx: the top times the matrix, which stands on the right
abbrev pub multiplied : Matrices → Mat4 → Matrices
multiplied s m = loaded s (product (top (current s)) m)

-- PushMatrix
abbrev pub push : Matrices → Matrices × Option GlError
push s = done s do
  stack ← pushed (limit s.mode) (current s)
  Ok (with_current s stack)

-- PopMatrix
abbrev pub pop : Matrices → Matrices × Option GlError
pop s = done s do
  stack ← popped (current s)
  Ok (with_current s stack)

-- Frustumx
abbrev pub frustum : Matrices → List Fx → Matrices × Option GlError
frustum s sides = done s (unless (projection.is_no_frustum sides) InvalidValue (Ok (multiplied s (projection.frustum sides))))

-- Orthox
abbrev pub ortho : Matrices → List Fx → Matrices × Option GlError
ortho s sides = done s (unless (projection.is_flat sides) InvalidValue (Ok (multiplied s (projection.ortho sides))))
