-- How a surface is cut into tiles of 16 by 16 pixels (this project's profile). The tiles at the right and
-- at the top may reach beyond the surface.
use Rattle.std.specs.Prelude.{ℕ, ◌+◌, ◌*◌, ◌/◌, ◌%◌}
use Rattle.gl_records.specs.declared.size.Size.{Size}
use Rattle.gl_records.specs.declared.tile.TileRect.{TileRect}

-- the tiles in a row, and the rows of tiles, that hold so many pixels
abbrev pub tiles_along : ℕ → ℕ
tiles_along pixels = (pixels + 15) / 16

abbrev pub tile_count : Size → ℕ
tile_count size = tiles_along size.w * tiles_along size.h

-- the lower left pixel of a tile: tiles are numbered by rows from the lower left
abbrev pub tile_rect_of : Size → ℕ → TileRect
tile_rect_of size tile = record {
  x0 = 16 * (tile % tiles_along size.w);
  y0 = 16 * (tile / tiles_along size.w);
}
