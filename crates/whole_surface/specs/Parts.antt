-- Parts of a tile and of a list of tiles on which an item is drawn: the pixels of the part are made of what was there, the
-- others are as they were.
use Rattle.std.specs.Prelude.{◌≡◌, ℕ, pos, ◌+◌, ◌*◌, ◌/◌, ◌%◌, ◌<◌, ◌≤◌, ◌≤ℤ◌, ◌&&◌, Bool, List, length, get_or, int_le, int_lt}
use Rattle.gl_records.specs.declared.frag_state.FragState.{FragState}
use Rattle.gl_records.specs.declared.pixel.Pixel.{Pixel}
use Rattle.gl_records.specs.declared.pixel_box.PixelBox.{PixelBox}
use Rattle.gl_records.specs.declared.prim.Primitive.{Primitive}
use Rattle.gl_records.specs.declared.size.Size.{Size}
use Rattle.gl_records.specs.declared.tile.TileRect.{TileRect}
use Rattle.gl_records.specs.After.{step}
use Rattle.gl_records.specs.Captured.{Captured, Draw, Clear}
use Rattle.gl_records.specs.Coverage.{covers}
use Rattle.gl_records.specs.Scissor.{scissor_holds}
use Rattle.gl_records.specs.Surface.{opening_pixel}
use Rattle.surface_tiles.specs.declared.tile.Tile.{Tile}
use Rattle.surface_tiles.specs.Tiled.{kept_pixel, opening_tile, tile_of}

-- the pixel at a place of a tile
abbrev pub pixel_in : Tile → ℕ → Pixel
pixel_in tile k = get_or tile.pixels k opening_pixel

-- what an item makes of the pixel at a place of the tile with this lower left pixel
abbrev pub tile_step : Captured → TileRect → ℕ → Pixel → Pixel
tile_step item rect k pixel = step item (rect.x0 + k % 16) (rect.y0 + k / 16) pixel

-- the places from `from` up to but not including `to`
pub record IsSpan (make : ℕ → Pixel → Pixel) (from to : ℕ) (old new : Tile) : Type 0 where
  pub made : (k : ℕ) → from ≤ k → k < to → k < 256 → pixel_in new k ≡ make k (pixel_in old k)
  pub before : (k : ℕ) → k < from → pixel_in new k ≡ pixel_in old k
  pub behind : (k : ℕ) → to ≤ k → pixel_in new k ≡ pixel_in old k

-- the tiles from `from` up to but not including `to`, as far as they lie on the surface
pub record AreDrawn (item : Captured) (size : Size) (from to : ℕ) (old new : List Tile) : Type 0 where
  pub len : length new ≡ length old
  pub drawn : (x y : ℕ) → x < size.w → y < size.h → from ≤ tile_of size x y → tile_of size x y < to
      → kept_pixel (record { size = size; tiles = new }) x y ≡ step item x y (kept_pixel (record { size = size; tiles = old }) x y)
  pub before : (t : ℕ) → t < from → get_or new t opening_tile ≡ get_or old t opening_tile
  pub behind : (t : ℕ) → to ≤ t → get_or new t opening_tile ≡ get_or old t opening_tile

-- the box that holds all that an item touches
abbrev pub box_of : Captured → PixelBox
box_of (Draw prim state first second) = prim.bounds
box_of (Clear clear) = clear.area

-- the primitive covers pixel (x, y), and the scissor test lets it through
abbrev pub shown : Primitive → FragState → ℕ → ℕ → Bool
shown prim state x y = covers prim (pos x) (pos y) && scissor_holds state.scissor x y

-- a box has this column of pixels
abbrev pub in_columns : PixelBox → ℕ → Bool
in_columns area x = int_le area.x0 (pos x) && int_lt (pos x) area.x1

-- the columns of tiles from `first` up to but not including `end` hold the box, and the rows of tiles
pub record HoldsColumns (area : PixelBox) (first end : ℕ) : Type 0 where
  pub from : pos (16 * first) ≤ℤ area.x0
  pub to : area.x1 ≤ℤ pos (16 * end)

pub record HoldsRows (area : PixelBox) (first end : ℕ) : Type 0 where
  pub from : pos (16 * first) ≤ℤ area.y0
  pub to : area.y1 ≤ℤ pos (16 * end)
