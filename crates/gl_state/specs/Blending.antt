-- How a fragment's colour and the one that is there become one (OpenGL ES 1.1.12, 4.1.7 and 4.1.9), and which
-- components are written (4.2.2).
use Rattle.std.specs.Prelude.{ℕ, Bool, true, [], ◌∷◌, Option, Some, None, Ok}
use Rattle.gl_tokens.specs.BlendFactor as blend_factor
use Rattle.gl_tokens.specs.Commands.{done, known, ◌>>=◌}
use Rattle.gl_tokens.specs.LogicOp as logic_op
use Rattle.gl_tokens.specs.declared.blend_factor.BlendFactor.{BlendFactor}
use Rattle.gl_tokens.specs.declared.blend_factor.BlendFactor.TheVariants.{Zero, One, SourceColor, OneMinusSourceColor, DestinationColor, OneMinusDestinationColor, SourceAlphaSaturate}
use Rattle.gl_tokens.specs.declared.gl_error.GlError.{GlError}
use Rattle.gl_tokens.specs.declared.logic_op.LogicOp.TheVariants.{Copy}
use Rattle.gl_state.specs.declared.blending.Blending.{Blending}

-- the incoming colour takes the place of the one that is there
abbrev pub opening_blending : Blending
opening_blending = record {
  source = One;
  destination = Zero;
  operation = Copy;
  mask = true ∷ true ∷ true ∷ true ∷ [];
}

-- the factors that a source may have: any but those of the source's colour
abbrev pub source_factor : Option BlendFactor → Option BlendFactor
source_factor (Some SourceColor) = None
source_factor (Some OneMinusSourceColor) = None
source_factor factor = factor

-- the factors that a destination may have: any but those of the destination's colour, and saturation
abbrev pub destination_factor : Option BlendFactor → Option BlendFactor
destination_factor (Some DestinationColor) = None
destination_factor (Some OneMinusDestinationColor) = None
destination_factor (Some SourceAlphaSaturate) = None
destination_factor factor = factor

-- BlendFunc
abbrev pub blend_func : Blending → ℕ → ℕ → Blending × Option GlError
blend_func s source destination = done s do
  first ← known (source_factor (blend_factor.from_code_of source))
  second ← known (destination_factor (blend_factor.from_code_of destination))
  Ok (record s { source = first; destination = second })

-- LogicOp
abbrev pub logic : Blending → ℕ → Blending × Option GlError
logic s code = done s do
  operation ← known (logic_op.from_code_of code)
  Ok (record s { operation = operation })

-- ColorMask
abbrev pub with_mask : Blending → Bool → Bool → Bool → Bool → Blending
with_mask s red green blue alpha = record s { mask = red ∷ green ∷ blue ∷ alpha ∷ [] }
