-- What a Clear does to one pixel that its area holds (OpenGL ES 1.1.12, 4.2.3).
use Rattle.std.specs.Prelude.{ℕ, Bool, List, Option, Some, None, bit_and, bit_or, bit_xor, unwrap_or}
use Rattle.gl_records.specs.declared.clear.ClearItem.{ClearItem}
use Rattle.gl_records.specs.declared.pixel.Pixel.{Pixel}
use Rattle.gl_records.specs.ColorMask.{masked_color}

abbrev pub color_after : Option (List ℕ × List Bool) → List ℕ → List ℕ
color_after None under = under
color_after (Some part) under = masked_color part.0 part.1 under

-- a stencil value takes the bits that the mask names
abbrev pub stencil_after : Option (ℕ × ℕ) → ℕ → ℕ
stencil_after None under = under
stencil_after (Some part) under = bit_or (bit_and under (bit_xor part.1 255)) (bit_and part.0 part.1)

-- the pixel after the Clear: each part that is there acts, the others stay
abbrev pub clear_step : ClearItem → Pixel → Pixel
clear_step clear pixel = record {
  rgba = color_after clear.color pixel.rgba;
  z = unwrap_or clear.depth pixel.z;
  s = stencil_after clear.stencil pixel.s;
}
