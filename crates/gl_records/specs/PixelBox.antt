-- Boxes of pixels.
use Rattle.std.specs.Prelude.{ℕ, pos, Bool, ◌&&◌, int_le, int_lt}
use Rattle.gl_records.specs.declared.pixel_box.PixelBox.{PixelBox}

-- the box holds pixel (x, y)
abbrev pub holds : PixelBox → ℕ → ℕ → Bool
holds area x y = int_le area.x0 (pos x) && int_lt (pos x) area.x1 && int_le area.y0 (pos y) && int_lt (pos y) area.y1
