-- The ranges of the state that vertices go by, in raw numbers: an exponent is 0 to 128, and the density of fog is not below 0
-- (OpenGL ES 1.1.12, 2.12.1 and 3.8).
use Rattle.std.specs.Prelude.{pos, ◌≤ℤ◌, All, IfSome}
use Rattle.fx_arith.specs.declared.fx.Fx.{Fx}
use Rattle.gl_records.specs.declared.fog_rule.FogRule.{FogRule}
use Rattle.gl_records.specs.declared.light.Light.{Light}
use Rattle.gl_records.specs.declared.material.Material.{Material}
use Rattle.gl_records.specs.declared.vertex_state.VertexState.{VertexState}

-- the exponent of a specular reflection or of a spotlight
abbrev pub IsExponent : Fx → Type 0
IsExponent exponent = (pos 0 ≤ℤ exponent.0) × (exponent.0 ≤ℤ pos 8388608)

abbrev pub IsMaterialInRange : Material → Type 0
IsMaterialInRange material = IsExponent material.shininess

abbrev pub IsLightInRange : Light → Type 0
IsLightInRange light = IsExponent light.exponent

abbrev pub IsFogInRange : FogRule → Type 0
IsFogInRange rule = pos 0 ≤ℤ rule.density.0

-- the state that vertices go by; lights and fog matter where they are on
pub record IsVertexStateInRange (state : VertexState) : Type 0 where
  pub material : IsMaterialInRange state.material
  pub lights : All (λ light. IfSome light IsLightInRange) state.lights
  pub fog : IfSome state.fog IsFogInRange
