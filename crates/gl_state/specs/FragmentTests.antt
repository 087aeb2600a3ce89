-- The tests that a fragment goes through (OpenGL ES 1.1.12, 4.1.2 and 4.1.4 to 4.1.6), and which bits of depth and
-- stencil are written (4.2.2).
use Rattle.std.specs.Prelude.{ℕ, ℤ, pos, Bool, true, ◌||◌, int_lt, Option, Ok}
use Rattle.fx_arith.specs.Number.{fixed, in_unit}
use Rattle.fx_arith.specs.declared.fx.Fx.{Fx}
use Rattle.gl_records.specs.declared.size.Size.{Size}
use Rattle.gl_tokens.specs.Commands.{done, known, unless, ◌>>=◌}
use Rattle.gl_tokens.specs.Compare as compare
use Rattle.gl_tokens.specs.StencilOp as stencil_op
use Rattle.gl_tokens.specs.declared.compare.Compare.TheVariants.{Always, Less}
use Rattle.gl_tokens.specs.declared.gl_error.GlError.{GlError}
use Rattle.gl_tokens.specs.declared.gl_error.GlError.TheVariants.{InvalidValue}
use Rattle.gl_tokens.specs.declared.stencil_op.StencilOp.TheVariants.{Keep}
use Rattle.gl_state.specs.Values.{low_byte, in_byte}
use Rattle.gl_state.specs.declared.fragment_tests.FragmentTests.{FragmentTests}

-- every alpha and every stencil value passes, lesser depths pass and are written; the box is the whole surface
abbrev pub opening_tests : Size → FragmentTests
opening_tests size = record {
  alpha_comparison = Always;
  alpha_reference = fixed (pos 0);
  stencil_comparison = Always;
  stencil_reference = 0;
  stencil_mask = 255;
  stencil_fail = Keep;
  depth_fail = Keep;
  depth_pass = Keep;
  stencil_write = 255;
  depth_comparison = Less;
  depth_write = true;
  scissor_x = pos 0;
  scissor_y = pos 0;
  scissor_width = pos size.w;
  scissor_height = pos size.h;
}

-- AlphaFunc: the reference is clamped
abbrev pub alpha_func : FragmentTests → ℕ → Fx → FragmentTests × Option GlError
alpha_func s code reference = done s do
  comparison ← known (compare.from_code_of code)
  Ok (record s { alpha_comparison = comparison; alpha_reference = in_unit reference })

-- StencilFunc: the reference is clamped to 0..255, and the mask keeps its low eight bits
abbrev pub stencil_func : FragmentTests → ℕ → ℤ → ℕ → FragmentTests × Option GlError
stencil_func s code reference mask = done s do
  comparison ← known (compare.from_code_of code)
  Ok (record s { stencil_comparison = comparison; stencil_reference = in_byte reference; stencil_mask = low_byte mask })

-- StencilOp
abbrev pub stencil_ops : FragmentTests → ℕ → ℕ → ℕ → FragmentTests × Option GlError
stencil_ops s stencil_fail depth_fail depth_pass = done s do
  first ← known (stencil_op.from_code_of stencil_fail)
  second ← known (stencil_op.from_code_of depth_fail)
  third ← known (stencil_op.from_code_of depth_pass)
  Ok (record s { stencil_fail = first; depth_fail = second; depth_pass = third })

-- StencilMask
abbrev pub with_stencil_write : FragmentTests → ℕ → FragmentTests
with_stencil_write s mask = record s { stencil_write = low_byte mask }

-- DepthFunc
abbrev pub depth_func : FragmentTests → ℕ → FragmentTests × Option GlError
depth_func s code = done s do
  comparison ← known (compare.from_code_of code)
  Ok (record s { depth_comparison = comparison })

-- DepthMask
abbrev pub with_depth_write : FragmentTests → Bool → FragmentTests
with_depth_write s write = record s { depth_write = write }

-- Scissor: no side below 0; not clamped
abbrev pub scissor : FragmentTests → ℤ → ℤ → ℤ → ℤ → FragmentTests × Option GlError
scissor s x y width height = done s (unless (int_lt width (pos 0) || int_lt height (pos 0)) InvalidValue (Ok
    (record s { scissor_x = x; scissor_y = y; scissor_width = width; scissor_height = height })))
