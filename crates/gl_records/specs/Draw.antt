-- What a primitive does to one pixel that it covers and that the scissor test lets through (OpenGL ES 1.1.12, 4.1).
use Rattle.std.specs.Prelude.{ℕ, pos, Option}
use Rattle.gl_records.specs.declared.frag.Frag.{Frag}
use Rattle.gl_records.specs.declared.frag_state.FragState.{FragState}
use Rattle.gl_records.specs.declared.level.ImageSet.{ImageSet}
use Rattle.gl_records.specs.declared.pixel.Pixel.{Pixel}
use Rattle.gl_records.specs.declared.prim.Primitive.{Primitive}
use Rattle.gl_records.specs.Depth.{depth}
use Rattle.gl_records.specs.Fragment.{pixel_step}
use Rattle.gl_records.specs.Shading.{shaded}

-- what the primitive brings to pixel (x, y), in this state and with the images of both texture units: its colour behind
-- textures and fog, and its depth
abbrev pub fragment : Primitive → FragState → (first second : Option ImageSet) → ℕ → ℕ → Frag
fragment prim state first second x y = record {
  rgba = shaded state first second prim (pos x) (pos y);
  z = depth prim (pos x) (pos y);
}

-- pixel (x, y) after the primitive's fragment there
abbrev pub draw_step : Primitive → FragState → (first second : Option ImageSet) → ℕ → ℕ → Pixel → Pixel
draw_step prim state first second x y pixel = pixel_step state (fragment prim state first second x y) pixel
