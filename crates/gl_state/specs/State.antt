-- The state of the commands, and what each command makes of it.
use Rattle.std.specs.Prelude.{ℕ, Bool, true, false, ◌&&◌, [], ◌∷◌, Option, Some, None, Ok, if◌then◌else◌}
use Rattle.gl_records.specs.declared.rec.Rec.{Rec}
use Rattle.gl_records.specs.declared.rec.Rec.TheVariants.{ClientActiveTexture, ActiveTexture, Color4x, Color4ub, Normal3x, MultiTexCoord4x, MatrixMode, LoadIdentity, LoadMatrixx, MultMatrixx, PushMatrix, PopMatrix, Rotatex, Scalex, Translatex, Frustumx, Orthox, Viewport, DepthRangex, CullFace, FrontFace, ShadeModel, PointSizex, LineWidthx, PolygonOffsetx, ClipPlanex, Hint, Enable, Disable, Fogx, Lightx, LightModelx, Materialx, AlphaFuncx, StencilFunc, StencilOp, StencilMask, DepthFunc, DepthMask, Scissor, BlendFunc, LogicOp, ColorMask, ClearColorx, ClearDepthx, ClearStencil, TexEnvx, PixelStorei}
use Rattle.gl_records.specs.declared.setup_rules.SetupRules.{SetupRules}
use Rattle.gl_records.specs.declared.size.Size.{Size}
use Rattle.gl_tokens.specs.Cap as cap
use Rattle.gl_tokens.specs.Commands.{done, known, within, ◌>>=◌}
use Rattle.gl_tokens.specs.TextureUnit as texture_unit
use Rattle.gl_tokens.specs.declared.gl_error.GlError.{GlError}
use Rattle.gl_tokens.specs.declared.texture_unit.TextureUnit.{TextureUnit}
use Rattle.gl_tokens.specs.declared.texture_unit.TextureUnit.TheVariants.{Texture0, Texture1}
use Rattle.fx_arith.specs.Matrix.{identity}
use Rattle.matrix_stacks.specs.Eye.{plane_to_eye}
use Rattle.matrix_stacks.specs.Stack.{top}
use Rattle.matrix_stacks.specs.Stacks.{Matrices, opening_matrices, loaded, multiplied, push, pop, frustum, ortho}
use Rattle.matrix_stacks.specs.Transform.{rotation, scaling, translation}
use Rattle.gl_state.specs.Blending as blending
use Rattle.gl_state.specs.Clears as clears
use Rattle.gl_state.specs.Current as current
use Rattle.gl_state.specs.Environments as environments
use Rattle.gl_state.specs.Fog as fog
use Rattle.gl_state.specs.FragmentTests as tests
use Rattle.gl_state.specs.Lighting as lighting
use Rattle.gl_state.specs.Lights as lights
use Rattle.gl_state.specs.Pixels as pixels
use Rattle.gl_state.specs.Raster as raster
use Rattle.gl_state.specs.Switches as switches
use Rattle.gl_state.specs.Transforms as transforms
use Rattle.gl_state.specs.Values.{vector}
use Rattle.gl_state.specs.declared.blending.Blending.{Blending}
use Rattle.gl_state.specs.declared.current.CurrentValues.{CurrentValues}
use Rattle.gl_state.specs.declared.environments.Environments.{Environments}
use Rattle.gl_state.specs.declared.fog.Fog.{Fog}
use Rattle.gl_state.specs.declared.fragment_tests.FragmentTests.{FragmentTests}
use Rattle.gl_state.specs.declared.lighting.Lighting.{Lighting}
use Rattle.gl_state.specs.declared.lights.Lights.{Lights}
use Rattle.gl_state.specs.declared.pixels.PixelStorage.{PixelStorage}
use Rattle.gl_state.specs.declared.raster.Raster.{Raster}
use Rattle.gl_state.specs.declared.state.State.{State}

-- before the first command
abbrev pub opening_state : Size → State
opening_state size = record {
  current = current.opening_values;
  raster = raster.opening_raster size;
  switches = switches.opening_switches;
  fog = fog.opening_fog;
  lighting = lighting.opening_lighting;
  lights = lights.opening_lights;
  tests = tests.opening_tests size;
  blending = blending.opening_blending;
  clears = clears.opening_clears;
  stacks = opening_matrices;
  environments = environments.opening_environments;
  pixels = pixels.opening_storage;
}

-- a command on one part of the state, and its error
abbrev pub on_current : State → CurrentValues × Option GlError → State × Option GlError
on_current s = within (λ part. record s { current = part })

abbrev pub on_raster : State → Raster × Option GlError → State × Option GlError
on_raster s = within (λ part. record s { raster = part })

abbrev pub on_fog : State → Fog × Option GlError → State × Option GlError
on_fog s = within (λ part. record s { fog = part })

abbrev pub on_lighting : State → Lighting × Option GlError → State × Option GlError
on_lighting s = within (λ part. record s { lighting = part })

abbrev pub on_lights : State → Lights × Option GlError → State × Option GlError
on_lights s = within (λ part. record s { lights = part })

abbrev pub on_tests : State → FragmentTests × Option GlError → State × Option GlError
on_tests s = within (λ part. record s { tests = part })

abbrev pub on_blending : State → Blending × Option GlError → State × Option GlError
on_blending s = within (λ part. record s { blending = part })

abbrev pub on_environments : State → Environments × Option GlError → State × Option GlError
on_environments s = within (λ part. record s { environments = part })

abbrev pub on_pixels : State → PixelStorage × Option GlError → State × Option GlError
on_pixels s = within (λ part. record s { pixels = part })

abbrev pub on_stacks : State → Matrices × Option GlError → State × Option GlError
on_stacks s = within (λ part. record s { stacks = part })

-- the number of a texture unit
abbrev pub unit_number : TextureUnit → ℕ
unit_number Texture0 = 0
unit_number Texture1 = 1

-- ActiveTexture: the unit of the texture stacks too
abbrev pub active_texture : State → ℕ → State × Option GlError
active_texture s code = done s do
  unit ← known (texture_unit.from_code_of code)
  Ok (record s { current = record s.current { unit = unit }; stacks = record s.stacks { unit = unit_number unit } })

-- while COLOR_MATERIAL is on, the material's ambient and diffuse colours are the current colour
-- (OpenGL ES 1.1.12, 2.12.3)
abbrev pub followed : State → State
followed s = if s.switches.color_material then record s { lighting = lighting.following s.lighting s.current.color } else s

-- a colour
abbrev pub colored : State → CurrentValues → State
colored s changed = followed (record s { current = changed })

-- Enable and Disable
abbrev pub switch : State → ℕ → Bool → State × Option GlError
switch s code on = done s do
  capability ← known (cap.from_code_of code)
  Ok (followed (record s { switches = switches.switched s.switches s.current.unit capability on }))

-- the state after a command, and the command's error; a command of something else changes nothing
abbrev pub ran : State → Rec → State × Option GlError
ran s (ClientActiveTexture texture) = on_current s (current.client_active_texture s.current texture)
ran s (ActiveTexture texture) = active_texture s texture
ran s (Color4x red green blue alpha) = (colored s (current.with_color s.current red green blue alpha), None)
ran s (Color4ub red green blue alpha) = (colored s (current.with_color_bytes s.current red green blue alpha), None)
ran s (Normal3x x y z) = (record s { current = current.with_normal s.current x y z }, None)
ran state (MultiTexCoord4x texture s t r q) = on_current state (current.multi_tex_coord state.current texture s t r q)
ran s (MatrixMode mode) = on_stacks s (transforms.matrix_mode s.stacks mode)
ran s LoadIdentity = (record s { stacks = loaded s.stacks identity }, None)
ran s (LoadMatrixx columns) = (record s { stacks = loaded s.stacks (transforms.matrix_of columns) }, None)
ran s (MultMatrixx columns) = (record s { stacks = multiplied s.stacks (transforms.matrix_of columns) }, None)
ran s PushMatrix = on_stacks s (push s.stacks)
ran s PopMatrix = on_stacks s (pop s.stacks)
ran s (Rotatex angle x y z) = (record s { stacks = multiplied s.stacks (rotation angle.0 (x ∷ y ∷ z ∷ [])) }, None)
ran s (Scalex x y z) = (record s { stacks = multiplied s.stacks (scaling (x ∷ y ∷ z ∷ [])) }, None)
ran s (Translatex x y z) = (record s { stacks = multiplied s.stacks (translation (x ∷ y ∷ z ∷ [])) }, None)
ran s (Frustumx left right bottom upper near far) =
    on_stacks s (frustum s.stacks (left ∷ right ∷ bottom ∷ upper ∷ near ∷ far ∷ []))
ran s (Orthox left right bottom upper near far) =
    on_stacks s (ortho s.stacks (left ∷ right ∷ bottom ∷ upper ∷ near ∷ far ∷ []))
ran s (Viewport x y width height) = on_raster s (raster.viewport s.raster x y width height)
ran s (DepthRangex near far) = (record s { raster = raster.with_depth_range s.raster near far }, None)
ran s (CullFace face) = on_raster s (raster.cull_face s.raster face)
ran s (FrontFace winding) = on_raster s (raster.front_face s.raster winding)
ran s (ShadeModel model) = on_raster s (raster.shade s.raster model)
ran s (PointSizex size) = on_raster s (raster.point_size s.raster size)
ran s (LineWidthx width) = on_raster s (raster.line_width s.raster width)
ran s (PolygonOffsetx factor units) = (record s { raster = raster.with_offset s.raster factor units }, None)
ran s (ClipPlanex plane equation) =
    on_raster s (raster.clip_plane s.raster plane (plane_to_eye (top s.stacks.modelview) (vector equation)))
ran s (Hint target mode) = on_raster s (raster.hint s.raster target mode)
ran s (Enable capability) = switch s capability true
ran s (Disable capability) = switch s capability false
ran s (Fogx parameter values) = on_fog s (fog.fog s.fog parameter values)
ran s (Lightx light parameter values) = on_lights s (lights.light s.lights (top s.stacks.modelview) light parameter values)
ran s (LightModelx parameter values) = on_lighting s (lighting.light_model s.lighting parameter values)
ran s (Materialx face parameter values) =
    on_lighting s (lighting.material s.lighting s.switches.color_material face parameter values)
ran s (AlphaFuncx comparison reference) = on_tests s (tests.alpha_func s.tests comparison reference)
ran s (StencilFunc comparison reference mask) = on_tests s (tests.stencil_func s.tests comparison reference mask)
ran s (StencilOp stencil_fail depth_fail depth_pass) = on_tests s (tests.stencil_ops s.tests stencil_fail depth_fail depth_pass)
ran s (StencilMask mask) = (record s { tests = tests.with_stencil_write s.tests mask }, None)
ran s (DepthFunc comparison) = on_tests s (tests.depth_func s.tests comparison)
ran s (DepthMask write) = (record s { tests = tests.with_depth_write s.tests write }, None)
ran s (Scissor x y width height) = on_tests s (tests.scissor s.tests x y width height)
ran s (BlendFunc source destination) = on_blending s (blending.blend_func s.blending source destination)
ran s (LogicOp operation) = on_blending s (blending.logic s.blending operation)
ran s (ColorMask red green blue alpha) = (record s { blending = blending.with_mask s.blending red green blue alpha }, None)
ran s (ClearColorx red green blue alpha) = (record s { clears = clears.with_color s.clears red green blue alpha }, None)
ran s (ClearDepthx depth) = (record s { clears = clears.with_depth s.clears depth }, None)
ran s (ClearStencil stencil) = (record s { clears = clears.with_stencil s.clears stencil }, None)
ran s (TexEnvx target parameter values) =
    on_environments s (environments.tex_env s.environments s.current.unit target parameter values)
ran s (PixelStorei parameter value) = on_pixels s (pixels.pixel_store s.pixels parameter value)
ran s _ = (s, None)

-- the state that set-up goes by
abbrev pub setup_rules : State → SetupRules
setup_rules s = record {
  viewport = s.raster.x ∷ s.raster.y ∷ s.raster.width ∷ s.raster.height ∷ [];
  range = s.raster.near ∷ s.raster.far ∷ [];
  front_ccw = raster.is_counterclockwise s.raster.front;
  cull = if s.switches.cull_face then Some (raster.culled_faces s.raster.culled) else None;
  two_side = s.switches.lighting && s.lighting.two_side;
  offset = if s.switches.polygon_offset_fill then Some (s.raster.offset_factor ∷ s.raster.offset_units ∷ []) else None;
  point = raster.in_pixels raster.greatest_point s.raster.point_size;
  line = raster.in_pixels raster.greatest_line s.raster.line_width;
}

-- the alignments of unpacking and of packing, in bytes
abbrev pub aligns : State → ℕ × ℕ
aligns s = (pixels.bytes_of s.pixels.unpack, pixels.bytes_of s.pixels.pack)
