-- Fog (OpenGL ES 1.1.12, 3.8).
use Rattle.std.specs.Prelude.{ℕ, pos, int_lt, [], ◌∷◌, Option, Result, Ok}
use Rattle.fx_arith.specs.Number.{one, fixed}
use Rattle.gl_records.specs.declared.fog_rule.FogRule.{FogRule}
use Rattle.gl_records.specs.declared.params.Params.{Params}
use Rattle.gl_tokens.specs.Commands.{done, known, unless, ◌>>=◌}
use Rattle.gl_tokens.specs.FogMode as fog_mode
use Rattle.gl_tokens.specs.FogParameter as fog_parameter
use Rattle.gl_tokens.specs.declared.fog_mode.FogMode.TheVariants.{Exp}
use Rattle.gl_tokens.specs.declared.fog_parameter.FogParameter.{FogParameter}
use Rattle.gl_tokens.specs.declared.fog_parameter.FogParameter.TheVariants.{Density, Start, End, Mode, Color}
use Rattle.gl_tokens.specs.declared.gl_error.GlError.{GlError}
use Rattle.gl_tokens.specs.declared.gl_error.GlError.TheVariants.{InvalidValue}
use Rattle.gl_state.specs.Values.{vector, word}
use Rattle.gl_state.specs.declared.fog.Fog.{Fog}

-- exponential with density 1, linear from 0 to 1
abbrev pub opening_rule : FogRule
opening_rule = record { mode = Exp; density = fixed one; start = fixed (pos 0); end = fixed one }

-- the same, colour 0 0 0 0
abbrev pub opening_fog : Fog
opening_fog = record {
  rule = opening_rule;
  color = fixed (pos 0) ∷ fixed (pos 0) ∷ fixed (pos 0) ∷ fixed (pos 0) ∷ [];
}

-- a parameter of the rule: a mode has to be one of fog's, and the density may not be below 0
abbrev pub with_rule : FogRule → FogParameter → Params → Result FogRule GlError
with_rule rule Mode values = do
  mode ← known (fog_mode.from_code_of (word values))
  Ok (record rule { mode = mode })
with_rule rule Density values = unless (int_lt values.0.0 (pos 0)) InvalidValue (Ok (record rule { density = values.0 }))
with_rule rule Start values = Ok (record rule { start = values.0 })
with_rule rule End values = Ok (record rule { end = values.0 })
with_rule rule Color values = Ok rule

-- a parameter of fog
abbrev pub with_parameter : Fog → FogParameter → Params → Result Fog GlError
with_parameter s Color values = Ok (record s { color = vector values })
with_parameter s parameter values = do
  rule ← with_rule s.rule parameter values
  Ok (record s { rule = rule })

-- Fog
abbrev pub fog : Fog → ℕ → Params → Fog × Option GlError
fog s code values = done s do
  parameter ← known (fog_parameter.from_code_of code)
  with_parameter s parameter values
