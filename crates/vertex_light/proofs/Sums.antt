-- The sum over the lights of a state is the sum over what is prepared of them.
use Rattle.std.proofs.Common.{◌≡◌, List, Option, refl}
use Rattle.std.specs.List.{fold}
use Rattle.std.specs.Option.{option_map}
use Rattle.std.proofs.lemmas.List.Folds.{fold-map}
use Rattle.fx_arith.specs.declared.fx.Fx.{Fx}
use Rattle.fx_arith.specs.Number.{component, fixed}
use Rattle.gl_records.specs.declared.light.Light.{Light}
use Rattle.gl_records.specs.declared.vertex_state.VertexState.{VertexState}
use Rattle.vertex_light.specs.declared.prepared_light.PreparedLight.{PreparedLight}
use Rattle.vertex_light.specs.Lit.{light_sum, lit, material_at, scene_light, shown, with_light}
use Rattle.vertex_light.specs.Prepared.{lights_of}

pub of_lights : (f : List Fx → Option Light → List Fx) (sum : List Fx) (lights : List (Option PreparedLight))
    → fold f sum (lights_of lights) ≡ fold (λ before light. f before (option_map (λ p. p.light) light)) sum lights
of_lights f sum lights = fold-map f (option_map (λ p. p.light)) sum lights

-- the colour of a vertex, of the sum and of the alpha
pub lit_is : (state : VertexState) (color normal eye scene sum : List Fx) (alpha : Fx) (lights : List (Option PreparedLight))
    → lights_of lights ≡ state.lights
    → scene ≡ scene_light (material_at state color) state.scene
    → sum ≡ fold (with_light (material_at state color) normal eye) scene (lights_of lights)
    → alpha ≡ fixed (component (material_at state color).diffuse 3)
    → shown sum alpha ≡ lit state color normal eye
unfolding lit
lit_is state color normal eye scene sum alpha lights same first whole end =
    let counted : sum ≡ light_sum state (material_at state color) normal eye = cc in
    rw (counted, end) refl
