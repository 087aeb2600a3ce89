-- The values that Clears write, and the bits that name buffers (OpenGL ES 1.1.12, 4.2.3).
use Rattle.std.specs.Prelude.{ℕ, ℤ, pos, ◌*◌, ◌/◌, Bool, not, ◌==◌, [], ◌∷◌, Option, Some, None, if◌then◌else◌, bit_and, unsigned_abs}
use Rattle.fx_arith.specs.Number.{one, fixed, in_unit}
use Rattle.fx_arith.specs.declared.fx.Fx.{Fx}
use Rattle.gl_records.specs.declared.pixel.TheConstants.{GREATEST_DEPTH}
use Rattle.gl_tokens.specs.declared.gl_error.GlError.{GlError}
use Rattle.gl_tokens.specs.declared.gl_error.GlError.TheVariants.{InvalidValue}
use Rattle.gl_state.specs.Values.{low_byte_signed}
use Rattle.gl_state.specs.declared.clears.Clears.{Clears}

-- colour 0 0 0 0, depth 1, stencil 0
abbrev pub opening_clears : Clears
opening_clears = record {
  color = fixed (pos 0) ∷ fixed (pos 0) ∷ fixed (pos 0) ∷ fixed (pos 0) ∷ [];
  depth = fixed one;
  stencil = 0;
}

-- ClearColor: clamped
abbrev pub with_color : Clears → Fx → Fx → Fx → Fx → Clears
with_color s red green blue alpha = record s { color = in_unit red ∷ in_unit green ∷ in_unit blue ∷ in_unit alpha ∷ [] }

-- ClearDepth: clamped
abbrev pub with_depth : Clears → Fx → Clears
with_depth s depth = record s { depth = in_unit depth }

-- ClearStencil: its low eight bits
abbrev pub with_stencil : Clears → ℤ → Clears
with_stencil s stencil = record s { stencil = low_byte_signed stencil }

-- the bits of a Clear
abbrev pub color_bit : ℕ
color_bit = 0x4000

abbrev pub depth_bit : ℕ
depth_bit = 0x0100

abbrev pub stencil_bit : ℕ
stencil_bit = 0x0400

abbrev pub clear_bits : ℕ
clear_bits = 0x4500

abbrev pub has_bit : ℕ → ℕ → Bool
has_bit mask bit = not (bit_and mask bit == 0)

-- the error of Clear: a bit that stands for no buffer
abbrev pub clear_error : ℕ → Option GlError
clear_error mask = if bit_and mask clear_bits == mask then None else Some InvalidValue

-- a depth of 0 to 1 as the surface has it, rounded down
abbrev pub surface_depth : Fx → ℕ
surface_depth depth = GREATEST_DEPTH * unsigned_abs depth.0 / 65536
