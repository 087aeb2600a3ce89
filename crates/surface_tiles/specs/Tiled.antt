-- A surface as it is kept, in tiles, and the whole surface that is read from them (this project's profile).
use Rattle.std.specs.Prelude.{ℕ, ℤ, pos, ◌+◌, ◌*◌, ◌/◌, ◌%◌, ◌++◌, ◌||◌, List, length, take, drop, map, replicate, get_or, Option, None, if◌then◌else◌, int_lt, unsigned_abs}
use Rattle.std.specs.List.{range_with_len}
use Rattle.gl_records.specs.declared.pixel.Pixel.{Pixel}
use Rattle.gl_records.specs.declared.size.Size.{Size}
use Rattle.gl_records.specs.Surface.{Surface, opening_pixel, pixel_at}
use Rattle.gl_records.specs.Tiles.{tile_count, tiles_along}
use Rattle.surface_tiles.specs.declared.tile.Tile.{Tile}

-- the surface's sides and its tiles, by their numbers
pub record Tiled : Type 0 where
  pub size : Size
  pub tiles : List Tile

-- the tile that holds pixel (x, y): tiles are numbered by rows from the lower left
abbrev pub tile_of : Size → ℕ → ℕ → ℕ
tile_of size x y = y / 16 * tiles_along size.w + x / 16

-- where pixel (x, y) stands in its tile: by rows from the bottom, each from the left
abbrev pub place_of : ℕ → ℕ → ℕ
place_of x y = y % 16 * 16 + x % 16

-- a tile before anything is drawn
abbrev pub opening_tile : Tile
opening_tile = record { pixels = replicate 256 opening_pixel; shaded = 0 }

abbrev pub opening_tiles : Size → Tiled
opening_tiles size = record { size = size; tiles = replicate (tile_count size) opening_tile }

-- pixel (x, y) of the tiles
abbrev pub kept_pixel : Tiled → ℕ → ℕ → Pixel
kept_pixel tiled x y = get_or (get_or tiled.tiles (tile_of tiled.size x y) opening_tile).pixels (place_of x y) opening_pixel

-- row y of the surface: what the tiles hold to the right of the surface is no part of it
abbrev pub row_of : Tiled → ℕ → List Pixel
row_of tiled y = map (λ x. kept_pixel tiled x y) (range_with_len 0 tiled.size.w)

-- the whole surface: what the tiles hold above it is no part of it
abbrev pub surface_of : Tiled → Surface
surface_of tiled = map (λ y. row_of tiled y) (range_with_len 0 tiled.size.h)

-- pixel (x, y) of the surface, or none outside
abbrev pub pixel_of : Tiled → ℤ → ℤ → Option Pixel
pixel_of tiled x y =
    if int_lt x (pos 0) || int_lt y (pos 0) then None else pixel_at (surface_of tiled) (unsigned_abs x) (unsigned_abs y)

-- as many tiles as before, the first of them these
abbrev pub with_tiles : Tiled → List Tile → Tiled
with_tiles tiled tiles = record tiled { tiles = take (length tiled.tiles) (tiles ++ drop (length tiles) tiled.tiles) }
