-- A primitive with its state and images, as an item, and on one tile.
use Rattle.std.specs.Prelude.{ℕ, pos, ◌+◌, Bool, List}
use Rattle.gl_records.specs.declared.pixel.Pixel.{Pixel}
use Rattle.gl_records.specs.Captured.{Captured, Draw}
use Rattle.gl_records.specs.Coverage.{covers}
use Rattle.gl_records.specs.Depth.{depth}
use Rattle.gl_records.specs.Draw.{draw_step}
use Rattle.gl_records.specs.Fragment.{pixel_step}
use Rattle.texture_env.specs.Shaders.{OnTile, Subject}
use Rattle.whole_surface.specs.Parts.{shown, tile_step}

abbrev pub drawing_of : Subject → Captured
drawing_of subject = Draw subject.prim subject.state subject.first subject.second

-- what it makes of the pixel at a place of the tile
abbrev pub step_on : OnTile → ℕ → Pixel → Pixel
step_on on = tile_step (drawing_of on.subject) on.rect

-- it covers the pixel in this column and row of the tile, and the scissor test lets it through
abbrev pub shown_on : OnTile → (column row : ℕ) → Bool
shown_on on column row = shown on.subject.prim on.subject.state (on.rect.x0 + column) (on.rect.y0 + row)

-- it covers that pixel
abbrev pub covered_on : OnTile → (column row : ℕ) → Bool
covered_on on column row = covers on.subject.prim (pos (on.rect.x0 + column)) (pos (on.rect.y0 + row))

-- the pixel there after its fragment
abbrev pub drawn_on : OnTile → (column row : ℕ) → Pixel → Pixel
drawn_on on column row pixel =
    draw_step on.subject.prim on.subject.state on.subject.first on.subject.second (on.rect.x0 + column) (on.rect.y0 + row) pixel

-- the pixel there after a fragment of this colour, with the primitive's depth
abbrev pub drawn_with : OnTile → (column row : ℕ) → List ℕ → Pixel → Pixel
drawn_with on column row rgba pixel =
    pixel_step on.subject.state (record { rgba = rgba; z = depth on.subject.prim (pos (on.rect.x0 + column)) (pos (on.rect.y0 + row)) }) pixel
