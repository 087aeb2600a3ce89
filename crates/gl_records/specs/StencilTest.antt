-- The stencil test (OpenGL ES 1.1.12, 4.1.5), and the bits of stencil values that are written (4.2.2).
use Rattle.std.specs.Prelude.{ℕ, ◌+◌, ◌-◌, Bool, true, Option, Some, None, bit_and, bit_or, bit_xor, min, slice_index_or}
use Rattle.gl_tokens.specs.declared.stencil_op.StencilOp.{StencilOp}
use Rattle.gl_tokens.specs.declared.stencil_op.StencilOp.TheVariants.{Zero, Invert, Keep, Replace, Increment, Decrement}
use Rattle.gl_records.specs.declared.stencil_state.StencilState.{StencilState}
use Rattle.gl_records.specs.Comparison.{passes}

-- the masked reference against the masked stored value; where the test is off each stored value passes
abbrev pub stencil_passes : Option StencilState → ℕ → Bool
stencil_passes None stored = true
stencil_passes (Some test) stored = passes test.func (bit_and test.reference test.mask) (bit_and stored test.mask)

-- what an operation makes of the stored value; the greatest value and 0 are the ends
abbrev pub operated : StencilOp → ℕ → ℕ → ℕ
operated Zero reference stored = 0
operated Invert reference stored = bit_xor stored 255
operated Keep reference stored = stored
operated Replace reference stored = reference
operated Increment reference stored = min (stored + 1) 255
operated Decrement reference stored = stored - 1

-- the stored value takes the bits that the write mask names
abbrev pub written : ℕ → ℕ → ℕ → ℕ
written mask value stored = bit_or (bit_and stored (bit_xor mask 255)) (bit_and value mask)

-- the three cases that have an operation each
abbrev pub stencil_fails : ℕ
stencil_fails = 0

abbrev pub depth_fails : ℕ
depth_fails = 1

abbrev pub both_pass : ℕ
both_pass = 2

-- the stored value after the tests came out as this case; where the stencil test is off it stays
abbrev pub stencil_after : Option StencilState → ℕ → ℕ → ℕ
stencil_after None outcome stored = stored
stencil_after (Some test) outcome stored =
    written test.write (operated (slice_index_or test.ops outcome Keep) test.reference stored) stored
