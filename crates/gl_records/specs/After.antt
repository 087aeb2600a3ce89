-- One pixel after a list of captured items, each drawn wholly before the next.
use Rattle.std.specs.Prelude.{ℕ, pos, ◌&&◌, List, [], ◌∷◌, if◌then◌else◌}
use Rattle.gl_records.specs.declared.pixel.Pixel.{Pixel}
use Rattle.gl_records.specs.Captured.{Captured, Draw, Clear}
use Rattle.gl_records.specs.Clear.{clear_step}
use Rattle.gl_records.specs.Coverage.{covers}
use Rattle.gl_records.specs.Draw.{draw_step}
use Rattle.gl_records.specs.PixelBox.{holds}
use Rattle.gl_records.specs.Scissor.{scissor_holds}

-- pixel (x, y) after one item
abbrev pub step : Captured → ℕ → ℕ → Pixel → Pixel
step (Draw prim state first second) x y pixel =
    if covers prim (pos x) (pos y) && scissor_holds state.scissor x y then draw_step prim state first second x y pixel else pixel
step (Clear clear) x y pixel = if holds clear.area x y then clear_step clear pixel else pixel

-- pixel (x, y) after the items in their order
abbrev pub after : List Captured → ℕ → ℕ → Pixel → Pixel
after [] x y pixel = pixel
after (item ∷ items) x y pixel = after items x y (step item x y pixel)
