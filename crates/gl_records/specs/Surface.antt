-- The surface that is drawn on: its rows from the bottom, each with its pixels from the left.
use Rattle.std.specs.Prelude.{◌≡◌, ℕ, List, [], ◌∷◌, length, map, replicate, All, Option, option_and_then, slice_get}
use Rattle.std.specs.List.{enumerate_from, flat_map}
use Rattle.gl_records.specs.declared.pixel.Pixel.{Pixel}
use Rattle.gl_records.specs.declared.size.Size.{Size}
use Rattle.gl_records.specs.declared.pixel.TheConstants.{GREATEST_DEPTH}
use Rattle.gl_records.specs.After.{after}
use Rattle.gl_records.specs.Captured.{Captured}

abbrev pub Surface : Type 0
Surface = List (List Pixel)

-- colour 0, the greatest depth, stencil 0
abbrev pub opening_pixel : Pixel
opening_pixel = record { rgba = 0 ∷ 0 ∷ 0 ∷ 0 ∷ []; z = GREATEST_DEPTH; s = 0 }

abbrev pub opening_surface : Size → Surface
opening_surface size = replicate size.h (replicate size.w opening_pixel)

-- the surface has the sides of this size
pub record IsShaped (size : Size) (surface : Surface) : Type 0 where
  pub height : length surface ≡ size.h
  pub width : All (λ row. length row ≡ size.w) surface

-- pixel (x, y), or none outside of the surface
abbrev pub pixel_at : Surface → ℕ → ℕ → Option Pixel
pixel_at surface x y = option_and_then (λ row. slice_get row x) (slice_get surface y)

-- row y after the items
abbrev pub drawn_row : List Captured → ℕ → List Pixel → List Pixel
drawn_row items y row = map (λ at. after items at.0 y at.1) (enumerate_from 0 row)

-- each pixel of the surface after the items
abbrev pub drawn : List Captured → Surface → Surface
drawn items surface = map (λ at. drawn_row items at.0 at.1) (enumerate_from 0 surface)

-- the colours of a row, R G B A for each pixel
abbrev pub row_bytes : List Pixel → List ℕ
row_bytes row = flat_map (λ pixel. pixel.rgba) row

-- the colours of the surface, bottom row first
abbrev pub surface_bytes : Surface → List ℕ
surface_bytes surface = flat_map row_bytes surface
