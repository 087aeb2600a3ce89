-- The colour of a vertex that is lit, R G B A (OpenGL ES 1.1.12, 2.12.1 and 2.12.3).
use Rattle.std.specs.Prelude.{ℕ, List, [], ◌∷◌, Option, Some, None, if◌then◌else◌}
use Rattle.std.specs.List.{fold}
use Rattle.fx_arith.specs.declared.fx.Fx.{Fx}
use Rattle.fx_arith.specs.Number.{component, fixed, in_unit}
use Rattle.gl_records.specs.declared.light.Light.{Light}
use Rattle.gl_records.specs.declared.material.Material.{Material}
use Rattle.gl_records.specs.declared.vertex_state.VertexState.{VertexState}
use Rattle.vertex_light.specs.Components.{first_three, products, sums}
use Rattle.vertex_light.specs.Term.{term}

-- the material of a vertex with this colour: where COLOR_MATERIAL is on, its ambient and its diffuse colour are the vertex's
unfoldable pub material_at : VertexState → List Fx → Material
material_at state color =
    if state.color_material then record state.material { ambient = color; diffuse = color } else state.material

-- the sum before the first light: what the material emits, and what it reflects of the scene's ambient light
unfoldable pub scene_light : Material → List Fx → List Fx
scene_light material scene = sums (first_three material.emission) (products material.ambient scene)

-- one more light in the sum, where it is on
unfoldable pub with_light : Material → List Fx → List Fx → List Fx → Option Light → List Fx
with_light material normal eye sum None = sum
with_light material normal eye sum (Some light) = sums sum (term material light normal eye)

-- the sum, by the numbers of the lights
abbrev pub light_sum : VertexState → Material → List Fx → List Fx → List Fx
light_sum state material normal eye =
    fold (with_light material normal eye) (scene_light material state.scene) state.lights

-- component k of a colour, clamped to 0..1
abbrev pub shade : List Fx → ℕ → Fx
shade color k = in_unit (fixed (component color k))

-- a colour R G B with an alpha, each clamped to 0..1
unfoldable pub shown : List Fx → Fx → List Fx
shown color alpha = shade color 0 ∷ shade color 1 ∷ shade color 2 ∷ in_unit alpha ∷ []

-- the colour of a vertex, of its normal and its place in eye coordinates; its alpha is that of the diffuse colour
unfoldable pub lit : VertexState → List Fx → List Fx → List Fx → List Fx
lit state color normal eye =
    let material = material_at state color in
    shown (light_sum state material normal eye) (fixed (component material.diffuse 3))
