-- What an item fixes for all of the pixels that it touches.
use Rattle.std.specs.Prelude.{◌≡◌, ℕ, pos, Bool, ◌||◌, List, IsTrue, is_some, unwrap_or}
use Rattle.gl_records.specs.declared.clear.ClearItem.{ClearItem}
use Rattle.gl_records.specs.declared.frag_state.FragState.{FragState}
use Rattle.gl_records.specs.declared.pixel.Pixel.{Pixel}
use Rattle.gl_records.specs.Clear.{clear_step}
use Rattle.gl_records.specs.Coverage.{covers}
use Rattle.gl_records.specs.Shading.{unit_at}
use Rattle.gl_records.specs.Valid.{IsInRange}
use Rattle.texture_env.specs.Shaders.{Subject, color_of}
use Rattle.whole_surface.specs.declared.drawing.Colors.{Colors}
use Rattle.whole_surface.specs.declared.drawing.Colors.TheVariants as colors
use Rattle.whole_surface.specs.declared.stages.Finish.{Finish}
use Rattle.whole_surface.specs.declared.stages.Tests.{Tests}
use Rattle.whole_surface.specs.declared.wipe.Wipe.{Wipe}
use Rattle.whole_surface.specs.Stages.{AreTestsOf, IsFinishOf}

-- the pixel with the parts that are there in place of its own
abbrev pub wiped : Wipe → Pixel → Pixel
wiped wipe pixel = record { rgba = unwrap_or wipe.color pixel.rgba; z = unwrap_or wipe.depth pixel.z; s = unwrap_or wipe.stencil pixel.s }

abbrev pub IsWipeOf : ClearItem → Wipe → Type 0
IsWipeOf clear wipe = (pixel : Pixel) → wiped wipe pixel ≡ clear_step clear pixel

-- a texture unit or fog is on
abbrev pub is_shaded : FragState → Bool
is_shaded state = is_some (unit_at state 0) || is_some (unit_at state 1) || is_some state.fog

-- each pixel that the primitive covers has this colour, behind textures and fog
abbrev pub IsShadedAs : Subject → List ℕ → Type 0
IsShadedAs subject color = (x y : ℕ) → IsTrue (covers subject.prim (pos x) (pos y)) → color_of subject x y ≡ color

-- what is known of the colours of a primitive: they are one, or a shader finds them
abbrev pub AreColorsOf : Colors → Subject → Type 0
AreColorsOf (colors.One color) subject = IsShadedAs subject color
AreColorsOf (colors.Shaded shader) subject = shader ≡ subject

-- these fit a primitive with its state and images
pub record IsDrawing (subject : Subject) (found : Colors) (asked : Tests) (made : Finish) : Type 0 where
  pub in_range : IsInRange subject.prim
  pub colors_fit : AreColorsOf found subject
  pub tests_fit : AreTestsOf asked subject.state
  pub finish_fits : IsFinishOf made subject.state
