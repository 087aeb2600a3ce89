-- What is known of a state of fragments once it was looked at.
use Rattle.std.specs.Prelude.{◌≡◌, ℕ, Bool, false, ◌&&◌, List, length, Option, Some, None, if◌then◌else◌, slice_index_or}
use Rattle.gl_tokens.specs.declared.blend_factor.BlendFactor.TheVariants.{OneMinusSourceAlpha, SourceAlpha}
use Rattle.gl_tokens.specs.declared.compare.Compare.{Compare}
use Rattle.gl_tokens.specs.declared.compare.Compare.TheVariants.{Less, LessOrEqual}
use Rattle.gl_records.specs.declared.frag_state.FragState.{FragState}
use Rattle.gl_records.specs.Blending.{blended_color}
use Rattle.gl_records.specs.Fragment.{blend}
use Rattle.interpolation.specs.TileValues.{OnTile as PrimitiveOnTile}
use Rattle.texture_env.specs.Shaders.{OnTile, primitive_on}
use Rattle.whole_surface.specs.declared.stages.Finish.{Finish}
use Rattle.whole_surface.specs.declared.stages.Finish.TheVariants as finish
use Rattle.whole_surface.specs.declared.stages.Tests.{Tests}
use Rattle.whole_surface.specs.declared.stages.Tests.TheVariants as tests

abbrev pub nearer : Bool → Compare
nearer equal = if equal then LessOrEqual else Less

-- neither the alpha test nor the stencil test is on, and the depth test is as these say; or nothing is known
abbrev pub AreTestsOf : Tests → FragState → Type 0
AreTestsOf tests.None state = (state.alpha ≡ None) × (state.stencil ≡ None) × (state.depth ≡ None)
AreTestsOf (tests.Nearer equal write) state = (state.alpha ≡ None) × (state.stencil ≡ None) × (state.depth ≡ Some (nearer equal, write))
AreTestsOf tests.Any state = Unit {0}

-- each component is written
abbrev pub has_mask : List Bool → Bool
has_mask mask = slice_index_or mask 0 false && slice_index_or mask 1 false && slice_index_or mask 2 false && slice_index_or mask 3 false

-- what becomes of a fragment's colour over the one that is there; or nothing is known
abbrev pub IsFinishOf : Finish → FragState → Type 0
IsFinishOf finish.Copied state = (color under : List ℕ) → length color ≡ 4 → blend state color under ≡ color
IsFinishOf finish.Over state = (color under : List ℕ) → blend state color under ≡ blended_color (SourceAlpha, OneMinusSourceAlpha) color under
IsFinishOf finish.Any state = Unit {0}

-- the primitive's depths on the tile, or the depth test is off
abbrev pub AreAskedDepths : OnTile → Option PrimitiveOnTile → Type 0
AreAskedDepths on (Some depths) = depths ≡ primitive_on on
AreAskedDepths on None = on.subject.state.depth ≡ None
