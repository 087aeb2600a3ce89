-- The texture environments, one a texture unit (OpenGL ES 1.1.12, 3.7.12).
use Rattle.std.specs.Prelude.{ℕ, pos, not, ◌==◌, List, [], ◌∷◌, Option, Some, None, Result, Ok, Err, if◌then◌else◌, slice_set}
use Rattle.fx_arith.specs.Number.{fixed}
use Rattle.gl_records.specs.declared.combine.Combine.{Combine}
use Rattle.gl_records.specs.declared.params.Params.{Params}
use Rattle.gl_tokens.specs.Commands.{done, known, unless, ◌>>=◌}
use Rattle.gl_tokens.specs.CombineFunc as combine_func
use Rattle.gl_tokens.specs.CombineOperand as combine_operand
use Rattle.gl_tokens.specs.CombineSource as combine_source
use Rattle.gl_tokens.specs.EnvMode as env_mode
use Rattle.gl_tokens.specs.EnvParameter as env_parameter
use Rattle.gl_tokens.specs.declared.combine_func.CombineFunc.{CombineFunc}
use Rattle.gl_tokens.specs.declared.combine_func.CombineFunc.TheVariants as func
use Rattle.gl_tokens.specs.declared.combine_operand.CombineOperand.{CombineOperand}
use Rattle.gl_tokens.specs.declared.combine_operand.CombineOperand.TheVariants.{SourceColor, OneMinusSourceColor, SourceAlpha}
use Rattle.gl_tokens.specs.declared.combine_source.CombineSource.TheVariants.{Texture, Constant, Previous}
use Rattle.gl_tokens.specs.declared.env_mode.EnvMode.TheVariants.{Modulate}
use Rattle.gl_tokens.specs.declared.env_parameter.EnvParameter.{EnvParameter}
use Rattle.gl_tokens.specs.declared.env_parameter.EnvParameter.TheVariants.{Mode, Color, CombineRgb, CombineAlpha, RgbScale, AlphaScale, Source0Rgb, Source1Rgb, Source2Rgb, Source0Alpha, Source1Alpha, Source2Alpha, Operand0Rgb, Operand1Rgb, Operand2Rgb, Operand0Alpha, Operand1Alpha, Operand2Alpha}
use Rattle.gl_tokens.specs.declared.gl_error.GlError.{GlError}
use Rattle.gl_tokens.specs.declared.gl_error.GlError.TheVariants.{InvalidEnum, InvalidValue}
use Rattle.gl_tokens.specs.declared.texture_unit.TextureUnit.{TextureUnit}
use Rattle.gl_tokens.specs.declared.texture_unit.TextureUnit.TheVariants.{Texture0, Texture1}
use Rattle.gl_state.specs.Values.{vector, word}
use Rattle.gl_state.specs.declared.environments.Environment.{Environment}
use Rattle.gl_state.specs.declared.environments.Environments.{Environments}

-- the texture's value is multiplied by that of before
abbrev pub opening_combine : List CombineOperand → Combine
opening_combine operands = record {
  func = func.Modulate;
  sources = Texture ∷ Previous ∷ Constant ∷ [];
  operands = operands;
  scale = 1;
}

abbrev pub opening_environment : Environment
opening_environment = record {
  mode = Modulate;
  color = fixed (pos 0) ∷ fixed (pos 0) ∷ fixed (pos 0) ∷ fixed (pos 0) ∷ [];
  rgb = opening_combine (SourceColor ∷ SourceColor ∷ SourceAlpha ∷ []);
  alpha = opening_combine (SourceAlpha ∷ SourceAlpha ∷ SourceAlpha ∷ []);
}

abbrev pub opening_environments : Environments
opening_environments = record { texture0 = opening_environment; texture1 = opening_environment }

-- the functions that make alpha: any but inner products
abbrev pub alpha_func : Option CombineFunc → Option CombineFunc
alpha_func (Some func.Dot3Rgb) = None
alpha_func (Some func.Dot3Rgba) = None
alpha_func function = function

-- the operands of alpha: those of the source's alpha
abbrev pub alpha_operand : Option CombineOperand → Option CombineOperand
alpha_operand (Some SourceColor) = None
alpha_operand (Some OneMinusSourceColor) = None
alpha_operand operand = operand

-- the scale that a word stands for as a GLfixed: 1, 2 or 4
abbrev pub scale_of : ℕ → Result ℕ GlError
scale_of word =
    if word == 0x10000 then Ok 1 else
    if word == 0x20000 then Ok 2 else
    if word == 0x40000 then Ok 4 else Err InvalidValue

-- a combining function, source k, operand k and a scale, each from the parameter's first word
abbrev pub with_func : Combine → Option CombineFunc → Result Combine GlError
with_func c found = do
  function ← known found
  Ok (record c { func = function })

abbrev pub with_source : Combine → ℕ → Params → Result Combine GlError
with_source c k values = do
  source ← known (combine_source.from_code_of (word values))
  Ok (record c { sources = slice_set c.sources k source })

abbrev pub with_operand : Combine → ℕ → Option CombineOperand → Result Combine GlError
with_operand c k found = do
  operand ← known found
  Ok (record c { operands = slice_set c.operands k operand })

abbrev pub with_scale : Combine → Params → Result Combine GlError
with_scale c values = do
  scale ← scale_of (word values)
  Ok (record c { scale = scale })

-- the environment with another way to combine colours, or alphas
abbrev pub with_rgb : Environment → Result Combine GlError → Result Environment GlError
with_rgb e changed = do
  combine ← changed
  Ok (record e { rgb = combine })

abbrev pub with_alpha : Environment → Result Combine GlError → Result Environment GlError
with_alpha e changed = do
  combine ← changed
  Ok (record e { alpha = combine })

-- a parameter: a code has to be one of its family, and a scale 1, 2 or 4
abbrev pub with_parameter : Environment → EnvParameter → Params → Result Environment GlError
with_parameter e Mode values = do
  mode ← known (env_mode.from_code_of (word values))
  Ok (record e { mode = mode })
with_parameter e Color values = Ok (record e { color = vector values })
with_parameter e CombineRgb values = with_rgb e (with_func e.rgb (combine_func.from_code_of (word values)))
with_parameter e CombineAlpha values = with_alpha e (with_func e.alpha (alpha_func (combine_func.from_code_of (word values))))
with_parameter e RgbScale values = with_rgb e (with_scale e.rgb values)
with_parameter e AlphaScale values = with_alpha e (with_scale e.alpha values)
with_parameter e Source0Rgb values = with_rgb e (with_source e.rgb 0 values)
with_parameter e Source1Rgb values = with_rgb e (with_source e.rgb 1 values)
with_parameter e Source2Rgb values = with_rgb e (with_source e.rgb 2 values)
with_parameter e Source0Alpha values = with_alpha e (with_source e.alpha 0 values)
with_parameter e Source1Alpha values = with_alpha e (with_source e.alpha 1 values)
with_parameter e Source2Alpha values = with_alpha e (with_source e.alpha 2 values)
with_parameter e Operand0Rgb values = with_rgb e (with_operand e.rgb 0 (combine_operand.from_code_of (word values)))
with_parameter e Operand1Rgb values = with_rgb e (with_operand e.rgb 1 (combine_operand.from_code_of (word values)))
with_parameter e Operand2Rgb values = with_rgb e (with_operand e.rgb 2 (combine_operand.from_code_of (word values)))
with_parameter e Operand0Alpha values = with_alpha e (with_operand e.alpha 0 (alpha_operand (combine_operand.from_code_of (word values))))
with_parameter e Operand1Alpha values = with_alpha e (with_operand e.alpha 1 (alpha_operand (combine_operand.from_code_of (word values))))
with_parameter e Operand2Alpha values = with_alpha e (with_operand e.alpha 2 (alpha_operand (combine_operand.from_code_of (word values))))

-- the environment of a unit
abbrev pub environment : Environments → TextureUnit → Environment
environment s Texture0 = s.texture0
environment s Texture1 = s.texture1

abbrev pub with_environment : Environments → TextureUnit → Environment → Environments
with_environment s Texture0 environment = record s { texture0 = environment }
with_environment s Texture1 environment = record s { texture1 = environment }

-- the target that all parameters have: TEXTURE_ENV
abbrev pub texture_env : ℕ
texture_env = 0x2300

-- TexEnv, of this unit
abbrev pub tex_env : Environments → TextureUnit → ℕ → ℕ → Params → Environments × Option GlError
tex_env s unit target code values =
    done s (unless (not (target == texture_env)) InvalidEnum do
      parameter ← known (env_parameter.from_code_of code)
      changed ← with_parameter (environment s unit) parameter values
      Ok (with_environment s unit changed))
