-- The lights (OpenGL ES 1.1.12, 2.12.1 and 2.12.2).
use Rattle.std.specs.Prelude.{ℕ, pos, negsuc, Bool, not, ◌-◌, ◌&&◌, ◌||◌, int_lt, int_le, nat_le, List, [], ◌∷◌, replicate, Option, Some, None, Result, Ok, slice_index_or, slice_set, if◌then◌else◌}
use Rattle.std.specs.Ordering.{int_eq}
use Rattle.fx_arith.specs.Number.{one, fixed}
use Rattle.fx_arith.specs.declared.fx.Fx.{Fx}
use Rattle.fx_arith.specs.declared.mat4.Mat4.{Mat4}
use Rattle.gl_records.specs.declared.light.Light.{Light}
use Rattle.gl_records.specs.declared.params.Params.{Params}
use Rattle.gl_tokens.specs.Commands.{done, known, unless, ◌>>=◌}
use Rattle.gl_tokens.specs.LightParameter as light_parameter
use Rattle.gl_tokens.specs.declared.gl_error.GlError.{GlError}
use Rattle.gl_tokens.specs.declared.gl_error.GlError.TheVariants.{InvalidValue}
use Rattle.gl_tokens.specs.declared.light_parameter.LightParameter.{LightParameter}
use Rattle.gl_tokens.specs.declared.light_parameter.LightParameter.TheVariants.{Ambient, Diffuse, Specular, Position, SpotDirection, SpotExponent, SpotCutoff, ConstantAttenuation, LinearAttenuation, QuadraticAttenuation}
use Rattle.matrix_stacks.specs.Eye.{direction_to_eye}
use Rattle.matrix_stacks.specs.Product.{transformed}
use Rattle.gl_state.specs.Values.{is_exponent, vector}
use Rattle.gl_state.specs.declared.lights.Lights.{Lights}

abbrev pub zero_fixed : Fx
zero_fixed = fixed (pos 0)

-- an opaque colour whose three components are the same
abbrev pub opaque_grey : Fx → List Fx
opaque_grey brightness = brightness ∷ brightness ∷ brightness ∷ fixed one ∷ []

-- a light of this diffuse and specular brightness: ambient 0 0 0 1, from 0 0 1 0, no spotlight, 0 0 -1, not attenuated
abbrev pub opening_light : Fx → Light
opening_light brightness = record {
  ambient = opaque_grey zero_fixed;
  diffuse = opaque_grey brightness;
  specular = opaque_grey brightness;
  position = zero_fixed ∷ zero_fixed ∷ fixed one ∷ zero_fixed ∷ [];
  direction = zero_fixed ∷ zero_fixed ∷ fixed (negsuc 65535) ∷ [];
  exponent = zero_fixed;
  cutoff = fixed (pos 11796480);
  attenuation = fixed one ∷ zero_fixed ∷ zero_fixed ∷ [];
}

-- the first light is white, and the others are black
abbrev pub opening_lights : Lights
opening_lights = record { all = opening_light (fixed one) ∷ replicate 7 (opening_light zero_fixed) }

-- what stands for a light that is not there
abbrev pub no_light : Light
no_light = record {
  ambient = [];
  diffuse = [];
  specular = [];
  position = [];
  direction = [];
  exponent = zero_fixed;
  cutoff = zero_fixed;
  attenuation = [];
}

-- light k of the state
abbrev pub light_at : Lights → ℕ → Light
light_at s k = slice_index_or s.all k no_light

-- the number of a light, 0 to 7, by its code
abbrev pub number_of : ℕ → Option ℕ
number_of code = if nat_le 0x4000 code && nat_le code 0x4007 then Some (code - 0x4000) else None

-- the first three of a parameter's numbers
abbrev pub three_of : Params → List Fx
three_of values = values.0 ∷ values.1 ∷ values.2 ∷ []

-- a cutoff is 0 to 90 degrees, or 180
abbrev pub is_cutoff : Fx → Bool
is_cutoff angle = (int_le (pos 0) angle.0 && int_le angle.0 (pos 5898240)) || int_eq angle.0 (pos 11796480)

-- attenuation k, which may not be below 0
abbrev pub with_attenuation : Light → ℕ → Fx → Result Light GlError
with_attenuation light k value =
    unless (int_lt value.0 (pos 0)) InvalidValue (Ok (record light { attenuation = slice_set light.attenuation k value }))

-- a parameter of a light, while this is the modelview matrix: its position and its direction are kept in eye coordinates
abbrev pub with_parameter : Light → Mat4 → LightParameter → Params → Result Light GlError
with_parameter light modelview Ambient values = Ok (record light { ambient = vector values })
with_parameter light modelview Diffuse values = Ok (record light { diffuse = vector values })
with_parameter light modelview Specular values = Ok (record light { specular = vector values })
with_parameter light modelview Position values = Ok (record light { position = transformed modelview (vector values) })
with_parameter light modelview SpotDirection values = Ok (record light { direction = direction_to_eye modelview (three_of values) })
with_parameter light modelview SpotExponent values =
    unless (not (is_exponent values.0)) InvalidValue (Ok (record light { exponent = values.0 }))
with_parameter light modelview SpotCutoff values =
    unless (not (is_cutoff values.0)) InvalidValue (Ok (record light { cutoff = values.0 }))
with_parameter light modelview ConstantAttenuation values = with_attenuation light 0 values.0
with_parameter light modelview LinearAttenuation values = with_attenuation light 1 values.0
with_parameter light modelview QuadraticAttenuation values = with_attenuation light 2 values.0

-- Light, while this is the modelview matrix
abbrev pub light : Lights → Mat4 → ℕ → ℕ → Params → Lights × Option GlError
light s modelview name code values = done s do
  number ← known (number_of name)
  parameter ← known (light_parameter.from_code_of code)
  changed ← with_parameter (light_at s number) modelview parameter values
  Ok (record s { all = slice_set s.all number changed })
