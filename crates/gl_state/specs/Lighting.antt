-- The material, and the lighting model (OpenGL ES 1.1.12, 2.12.2 and 2.12.3).
use Rattle.std.specs.Prelude.{ℕ, pos, Bool, false, not, ◌==◌, List, [], ◌∷◌, Option, Result, Ok, if◌then◌else◌}
use Rattle.fx_arith.specs.Number.{one, fixed}
use Rattle.fx_arith.specs.declared.fx.Fx.{Fx}
use Rattle.gl_records.specs.declared.material.Material.{Material}
use Rattle.gl_records.specs.declared.params.Params.{Params}
use Rattle.gl_tokens.specs.Commands.{done, known, unless, ◌>>=◌}
use Rattle.gl_tokens.specs.Face as face
use Rattle.gl_tokens.specs.LightModelParameter as light_model_parameter
use Rattle.gl_tokens.specs.MaterialParameter as material_parameter
use Rattle.gl_tokens.specs.declared.face.Face.TheVariants.{FrontAndBack}
use Rattle.gl_tokens.specs.declared.gl_error.GlError.{GlError}
use Rattle.gl_tokens.specs.declared.gl_error.GlError.TheVariants.{InvalidEnum, InvalidValue}
use Rattle.gl_tokens.specs.declared.light_model_parameter.LightModelParameter.{LightModelParameter}
use Rattle.gl_tokens.specs.declared.light_model_parameter.LightModelParameter.TheVariants as model
use Rattle.gl_tokens.specs.declared.material_parameter.MaterialParameter.{MaterialParameter}
use Rattle.gl_tokens.specs.declared.material_parameter.MaterialParameter.TheVariants.{Ambient, Diffuse, Specular, Emission, Shininess, AmbientAndDiffuse}
use Rattle.gl_state.specs.Values.{is_exponent, vector, word}
use Rattle.gl_state.specs.declared.lighting.Lighting.{Lighting}

-- a grey of this brightness, opaque
abbrev pub grey : Fx → List Fx
grey brightness = brightness ∷ brightness ∷ brightness ∷ fixed one ∷ []

-- 0.2 and 0.8, rounded down
abbrev pub fifth : Fx
fifth = fixed (pos 13107)

abbrev pub four_fifths : Fx
four_fifths = fixed (pos 52428)

abbrev pub opening_material : Material
opening_material = record {
  ambient = grey fifth;
  diffuse = grey four_fifths;
  specular = grey (fixed (pos 0));
  emission = grey (fixed (pos 0));
  shininess = fixed (pos 0);
}

abbrev pub opening_lighting : Lighting
opening_lighting = record { material = opening_material; scene = grey fifth; two_side = false }

-- a parameter of the lighting model
abbrev pub with_model : Lighting → LightModelParameter → Params → Lighting
with_model s model.TwoSide values = record s { two_side = not (word values == 0) }
with_model s model.Ambient values = record s { scene = vector values }

-- LightModel
abbrev pub light_model : Lighting → ℕ → Params → Lighting × Option GlError
light_model s code values = done s do
  parameter ← known (light_model_parameter.from_code_of code)
  Ok (with_model s parameter values)

-- a material with this ambient and diffuse colour
abbrev pub with_colors : Material → List Fx → Material
with_colors m color = record m { ambient = color; diffuse = color }

-- the ambient and the diffuse colour follow the current colour
abbrev pub following : Lighting → List Fx → Lighting
following s color = record s { material = with_colors s.material color }

-- a parameter of the material; while it follows the current colour, its ambient and its diffuse colour stay
abbrev pub with_material : Material → Bool → MaterialParameter → Params → Result Material GlError
with_material m follows Ambient values = Ok (if follows then m else record m { ambient = vector values })
with_material m follows Diffuse values = Ok (if follows then m else record m { diffuse = vector values })
with_material m follows AmbientAndDiffuse values =
    Ok (if follows then m else record m { ambient = vector values; diffuse = vector values })
with_material m follows Specular values = Ok (record m { specular = vector values })
with_material m follows Emission values = Ok (record m { emission = vector values })
with_material m follows Shininess values =
    unless (not (is_exponent values.0)) InvalidValue (Ok (record m { shininess = values.0 }))

-- Material, of both sides; whether it follows the current colour. The shininess is 0 to 128.
abbrev pub material : Lighting → Bool → ℕ → ℕ → Params → Lighting × Option GlError
material s follows side code values =
    done s (unless (not (side == face.code_of FrontAndBack)) InvalidEnum do
      parameter ← known (material_parameter.from_code_of code)
      changed ← with_material s.material follows parameter values
      Ok (record s { material = changed }))
