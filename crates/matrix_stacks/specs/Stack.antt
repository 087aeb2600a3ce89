-- A stack of matrices: a list whose last is the top (OpenGL ES 1.1.12, 2.10.2).
use Rattle.std.specs.Prelude.{ℕ, ◌-◌, List, [], ◌∷◌, ◌++◌, length, take, nat_le, slice_index_or, Result, Ok}
use Rattle.fx_arith.specs.declared.mat4.Mat4.{Mat4}
use Rattle.fx_arith.specs.Matrix.{identity}
use Rattle.gl_tokens.specs.declared.gl_error.GlError.{GlError}
use Rattle.gl_tokens.specs.declared.gl_error.GlError.TheVariants.{StackOverflow, StackUnderflow}
use Rattle.gl_tokens.specs.Commands.{unless}

-- the top of a stack
abbrev pub top : List Mat4 → Mat4
top stack = slice_index_or stack (length stack - 1) identity

-- the matrices below the top
abbrev pub below : List Mat4 → List Mat4
below stack = take (length stack - 1) stack

-- the stack with another top
abbrev pub with_top : List Mat4 → Mat4 → List Mat4
with_top stack m = below stack ++ m ∷ []

-- PushMatrix: the top is there twice, where the stack may have one matrix more
abbrev pub pushed : ℕ → List Mat4 → Result (List Mat4) GlError
pushed limit stack = unless (nat_le limit (length stack)) StackOverflow (Ok (stack ++ top stack ∷ []))

-- PopMatrix: the top goes, where it isn't the only matrix
abbrev pub popped : List Mat4 → Result (List Mat4) GlError
popped stack = unless (nat_le (length stack) 1) StackUnderflow (Ok (below stack))
