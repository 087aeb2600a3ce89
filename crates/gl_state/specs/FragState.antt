-- What happens to the fragments of a draw, as the state of the commands has it at the moment of the draw
-- (OpenGL ES 1.1.12, 3.7, 3.8 and 4.1). A part is there where it is on.
use Rattle.std.specs.Prelude.{ℕ, ◌+ℤ◌, ℤ, Bool, true, false, not, ◌&&◌, List, [], ◌∷◌, map, Option, Some, None, slice_index_or}
use Rattle.std.specs.Bool.{then_some}
use Rattle.std.specs.Int.{w32, saturate_signed}
use Rattle.fx_arith.specs.Number.{c8}
use Rattle.fx_arith.specs.declared.fx.Fx.{Fx}
use Rattle.gl_records.specs.declared.env.Env.{Env}
use Rattle.gl_records.specs.declared.frag_state.FragState.{FragState}
use Rattle.gl_records.specs.declared.pixel_box.PixelBox.{PixelBox}
use Rattle.gl_records.specs.declared.sampler.Sampler.{Sampler}
use Rattle.gl_records.specs.declared.stencil_state.StencilState.{StencilState}
use Rattle.gl_records.specs.declared.unit_state.UnitState.{UnitState}
use Rattle.gl_records.specs.declared.version_id.VersionId.{VersionId}
use Rattle.gl_tokens.specs.declared.base_format.BaseFormat.{BaseFormat}
use Rattle.gl_tokens.specs.declared.blend_factor.BlendFactor.{BlendFactor}
use Rattle.gl_state.specs.declared.environments.Environment.{Environment}
use Rattle.gl_state.specs.declared.fragment_tests.FragmentTests.{FragmentTests}
use Rattle.gl_state.specs.declared.state.State.{State}

-- the bytes of a colour R G B A
abbrev pub bytes : List Fx → List ℕ
bytes color = map (λ component. c8 component.0) color

-- a texture environment with its colour in bytes
abbrev pub env : Environment → Env
env environment = record {
  mode = environment.mode;
  color = bytes environment.color;
  rgb = environment.rgb;
  alpha = environment.alpha;
}

-- the image that a texture unit is given: its version, its format, and how it is read
abbrev pub Image : Type 0
Image = VersionId × BaseFormat × Sampler

-- no image at either texture unit
abbrev pub no_images : List (Option Image)
no_images = None ∷ None ∷ []

-- a texture unit, where texturing is on and there is an image
abbrev pub unit : Bool → Environment → Option Image → Option UnitState
unit false environment image = None
unit true environment None = None
unit true environment (Some image) =
    Some (record { version = image.0; format = image.1; sampler = image.2; env = env environment })

-- the end of a side, at the greatest number where it lies beyond
abbrev pub end_of_side : ℤ → ℤ → ℤ
end_of_side from side = saturate_signed w32 (from +ℤ side)

abbrev pub scissor_box : FragmentTests → PixelBox
scissor_box tests = record {
  x0 = tests.scissor_x;
  y0 = tests.scissor_y;
  x1 = end_of_side tests.scissor_x tests.scissor_width;
  y1 = end_of_side tests.scissor_y tests.scissor_height;
}

abbrev pub stencil_state : FragmentTests → StencilState
stencil_state tests = record {
  func = tests.stencil_comparison;
  reference = tests.stencil_reference;
  mask = tests.stencil_mask;
  write = tests.stencil_write;
  ops = tests.stencil_fail ∷ tests.depth_fail ∷ tests.depth_pass ∷ [];
}

-- the texture units, with these images
abbrev pub units : State → List (Option Image) → List (Option UnitState)
units s images =
    unit s.switches.texture0 s.environments.texture0 (slice_index_or images 0 None)
    ∷ unit s.switches.texture1 s.environments.texture1 (slice_index_or images 1 None) ∷ []

-- the factors of blending; where the logical operation is on nothing is blended
abbrev pub factors : State → Option (BlendFactor × BlendFactor)
factors s = then_some (s.switches.blend && not s.switches.color_logic_op) (s.blending.source, s.blending.destination)

-- with these images at the texture units
abbrev pub frag_state : State → List (Option Image) → FragState
frag_state s images = record {
  units = units s images;
  fog = then_some s.switches.fog (bytes s.fog.color);
  scissor = then_some s.switches.scissor_test (scissor_box s.tests);
  alpha = then_some s.switches.alpha_test (s.tests.alpha_comparison, c8 s.tests.alpha_reference.0);
  stencil = then_some s.switches.stencil_test (stencil_state s.tests);
  depth = then_some s.switches.depth_test (s.tests.depth_comparison, s.tests.depth_write);
  blend = factors s;
  logic = then_some s.switches.color_logic_op s.blending.operation;
  mask = s.blending.mask;
}
