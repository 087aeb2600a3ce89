-- What a fragment does to the pixel that it falls on (OpenGL ES 1.1.12, 4.1 and figure 4.1): the tests in their order,
-- then its colour. Whoever makes the fragment has seen to the scissor test, which goes by the pixel's place.
use Rattle.std.specs.Prelude.{ℕ, Bool, true, false, List, Option, Some, None, if◌then◌else◌}
use Rattle.gl_tokens.specs.declared.blend_factor.BlendFactor.{BlendFactor}
use Rattle.gl_tokens.specs.declared.logic_op.LogicOp.{LogicOp}
use Rattle.gl_records.specs.declared.frag.Frag.{Frag}
use Rattle.gl_records.specs.declared.frag_state.FragState.{FragState}
use Rattle.gl_records.specs.declared.pixel.Pixel.{Pixel}
use Rattle.gl_records.specs.AlphaTest.{alpha_passes}
use Rattle.gl_records.specs.Blending.{blended_color}
use Rattle.gl_records.specs.Color.{alpha}
use Rattle.gl_records.specs.ColorMask.{masked_color}
use Rattle.gl_records.specs.DepthTest.{depth_passes, depth_after}
use Rattle.gl_records.specs.LogicOp.{operated_color}
use Rattle.gl_records.specs.StencilTest.{stencil_passes, stencil_after, stencil_fails, depth_fails, both_pass}

-- the depth test of a fragment that passed the stencil test: whether it passes, and what it leaves
abbrev pub depth_tested : FragState → Frag → Pixel → Bool × Pixel
depth_tested state fragment pixel =
    if depth_passes state.depth fragment.z pixel.z
    then (true, record pixel { z = depth_after state.depth fragment.z pixel.z; s = stencil_after state.stencil both_pass pixel.s })
    else (false, record pixel { s = stencil_after state.stencil depth_fails pixel.s })

-- the stencil test of a fragment that passed the alpha test, and the tests behind it
abbrev pub stencil_tested : FragState → Frag → Pixel → Bool × Pixel
stencil_tested state fragment pixel =
    if stencil_passes state.stencil pixel.s then depth_tested state fragment pixel
    else (false, record pixel { s = stencil_after state.stencil stencil_fails pixel.s })

-- all tests: whether the fragment passes them, and the pixel with the stencil value and the depth that they leave
abbrev pub tests : FragState → Frag → Pixel → Bool × Pixel
tests state fragment pixel =
    if alpha_passes state.alpha (alpha fragment.rgba) then stencil_tested state fragment pixel else (false, pixel)

-- the fragment's colour blended with the one that is there, or as it is where blending is off
abbrev pub after_blending : Option (BlendFactor × BlendFactor) → List ℕ → List ℕ → List ℕ
after_blending None color under = color
after_blending (Some factors) color under = blended_color factors color under

-- where there is a logical operation it takes the place of blending
abbrev pub after_logic : Option LogicOp → Option (BlendFactor × BlendFactor) → List ℕ → List ℕ → List ℕ
after_logic None factors color under = after_blending factors color under
after_logic (Some operation) factors color under = operated_color operation color under

-- the colour of the pixel after a fragment that passed the tests: the colour mask comes last
abbrev pub blend : FragState → List ℕ → List ℕ → List ℕ
blend state color under = masked_color (after_logic state.logic state.blend color under) state.mask under

-- the pixel that the tests left takes the fragment's colour where they passed
abbrev pub colored : FragState → Frag → Bool × Pixel → Pixel
colored state fragment tested =
    if tested.0 then record tested.1 { rgba = blend state fragment.rgba tested.1.rgba } else tested.1

-- the pixel after the fragment
abbrev pub pixel_step : FragState → Frag → Pixel → Pixel
pixel_step state fragment pixel = colored state fragment (tests state fragment pixel)
