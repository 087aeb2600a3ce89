-- What a draw computes once of each light, in place of once for each vertex.
use Rattle.std.specs.Prelude.{◌≡◌, List, map, Option, All, IfSome}
use Rattle.std.specs.Option.{option_map}
use Rattle.fx_arith.specs.declared.fx.Fx.{Fx}
use Rattle.fx_arith.specs.Angle.{cosine}
use Rattle.fx_arith.specs.Vector.{normalise3}
use Rattle.gl_records.specs.declared.light.Light.{Light}
use Rattle.gl_records.specs.declared.material.Material.{Material}
use Rattle.gl_records.specs.declared.vertex_state.VertexState.{VertexState}
use Rattle.gl_records.specs.VertexState.{IsLightInRange, IsVertexStateInRange}
use Rattle.vertex_light.specs.declared.prepared_light.PreparedLight.{PreparedLight}
use Rattle.vertex_light.specs.Aim.{aim as aim_of}
use Rattle.vertex_light.specs.Half.{half as half_of}
use Rattle.vertex_light.specs.Lit.{scene_light}
use Rattle.vertex_light.specs.Term.{reflectance as reflectance_of}

-- each part is what it stands for, of this material and of the light itself
pub record IsPrepared (material : Material) (p : PreparedLight) : Type 0 where
  pub aim : p.aim ≡ aim_of p.light
  pub half : p.half ≡ half_of (aim_of p.light)
  pub axis : p.axis ≡ normalise3 p.light.direction
  pub edge : p.edge.0 ≡ cosine p.light.cutoff.0
  pub reflectance : p.reflectance ≡ reflectance_of material p.light
  pub range : IsLightInRange p.light

-- the lights themselves
abbrev pub lights_of : List (Option PreparedLight) → List (Option Light)
lights_of prepared = map (option_map (λ p. p.light)) prepared

-- the sum before the first light, and the lights, of a state
pub record ArePrepared (state : VertexState) (base : List Fx) (prepared : List (Option PreparedLight)) : Type 0 where
  pub scene : base ≡ scene_light state.material state.scene
  pub lights : lights_of prepared ≡ state.lights
  pub each : All (λ light. IfSome light (IsPrepared state.material)) prepared
  pub ranges : IsVertexStateInRange state
