-- What happens to the vertices of a draw, as the state of the commands has it at the moment of the draw
-- (OpenGL ES 1.1.12, 2.10 to 2.12 and 3.8).
use Rattle.std.specs.Prelude.{ℕ, false, List, [], ◌∷◌, Option, slice_index_or}
use Rattle.std.specs.Bool.{then_some}
use Rattle.gl_records.specs.declared.light.Light.{Light}
use Rattle.gl_records.specs.declared.vertex_state.VertexState.{VertexState}
use Rattle.matrix_stacks.specs.Stack.{top}
use Rattle.gl_state.specs.Lights.{light_at}
use Rattle.gl_state.specs.declared.state.State.{State}

-- light k, where it is on
abbrev pub light_on : State → ℕ → Option Light
light_on s k = then_some (slice_index_or s.switches.lights k false) (light_at s.lights k)

-- the lights by their numbers
unfoldable pub lights_on : State → List (Option Light)
lights_on s =
    light_on s 0 ∷ light_on s 1 ∷ light_on s 2 ∷ light_on s 3 ∷ light_on s 4 ∷ light_on s 5 ∷ light_on s 6 ∷ light_on s 7 ∷ []

abbrev pub vertex_state : State → VertexState
vertex_state s = record {
  modelview = top s.stacks.modelview;
  projection = top s.stacks.projection;
  texture = top s.stacks.texture0 ∷ top s.stacks.texture1 ∷ [];
  plane = then_some s.switches.clip_plane0 s.raster.plane;
  lighting = s.switches.lighting;
  color_material = s.switches.color_material;
  normalize = s.switches.normalize;
  rescale = s.switches.rescale_normal;
  scene = s.lighting.scene;
  material = s.lighting.material;
  lights = lights_on s;
  fog = then_some s.switches.fog s.fog.rule;
}
