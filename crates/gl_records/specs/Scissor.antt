-- The scissor test (OpenGL ES 1.1.12, 4.1.2): it goes by a pixel's place alone.
use Rattle.std.specs.Prelude.{ℕ, Bool, true, Option, Some, None}
use Rattle.gl_records.specs.declared.pixel_box.PixelBox.{PixelBox}
use Rattle.gl_records.specs.PixelBox.{holds}

-- the scissor box holds pixel (x, y); where the test is off each pixel passes
abbrev pub scissor_holds : Option PixelBox → ℕ → ℕ → Bool
scissor_holds None x y = true
scissor_holds (Some box) x y = holds box x y
