-- Which colours of a row of a tile are asked for, and what is painted with those that were found.
use Rattle.std.specs.Prelude.{◌≡◌, ℕ, ◌+◌, ◌*◌, ◌<◌, Bool, List, [], IsTrue, get_or}
use Rattle.std.specs.Int.{bit_at}
use Rattle.gl_records.specs.declared.pixel.Pixel.{Pixel}
use Rattle.surface_tiles.specs.declared.tile.Tile.{Tile}
use Rattle.texture_env.specs.Rows.{AreCovered}
use Rattle.texture_env.specs.Shaders.{OnTile}
use Rattle.whole_surface.specs.Parts.{pixel_in}
use Rattle.whole_surface.specs.Subjects.{drawn_on, drawn_with, step_on}

-- the colour of the fragment in this column and row makes no difference to the pixel; and where `keeps` says so the
-- fragment makes none
pub record IsUnasked (on : OnTile) (column row : ℕ) (keeps : Bool) (pixel : Pixel) : Type 0 where
  pub for_any : (rgba : List ℕ) → drawn_with on column row rgba pixel ≡ drawn_on on column row pixel
  pub stays : IsTrue keeps → drawn_on on column row pixel ≡ pixel

-- of the pixels of a row whose bits are set, those that are asked for; the others needn't be
pub record AreAsked (on : OnTile) (row : ℕ) (keeps : Bool) (tile : Tile) (bits asked : ℕ) : Type 0 where
  pub among : (i : ℕ) → i < 16 → bit_at asked i ≡ 1 → bit_at bits i ≡ 1
  pub others : (i : ℕ) → i < 16 → bit_at bits i ≡ 1 → bit_at asked i ≡ 0 → IsUnasked on i row keeps (pixel_in tile (16 * row + i))

-- with these colours the pixels of a row whose bits are set become what the primitive makes of them, which the others are
-- already
pub record ArePaints (on : OnTile) (row : ℕ) (tile : Tile) (bits : ℕ) (colors : List (List ℕ)) : Type 0 where
  pub covered : AreCovered on bits row
  pub painted : (i : ℕ) → i < 16 → bit_at bits i ≡ 1
      → drawn_with on i row (get_or colors i []) (pixel_in tile (16 * row + i)) ≡ step_on on (16 * row + i) (pixel_in tile (16 * row + i))
  pub left : (i : ℕ) → i < 16 → bit_at bits i ≡ 0 → pixel_in tile (16 * row + i) ≡ step_on on (16 * row + i) (pixel_in tile (16 * row + i))
