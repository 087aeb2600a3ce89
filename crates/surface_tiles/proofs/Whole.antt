-- The whole surface of the tiles: its sides and its pixels.
use Rattle.std.proofs.Common.{◌≡◌, ◌+◌, ◌<◌, ◌≤◌, ◌⊎◌, inl, inr, ℕ, List, Option, Some, None, length, [], get_or, map, replicate, drop, sym, ap, ◌∙◌, arith}
use Rattle.std.specs.Prelude.{option_and_then, slice_get}
use Rattle.std.specs.List.{range_with_len}
use Rattle.std.proofs.lemmas.Bool.{cases_lt}
use Rattle.std.proofs.lemmas.List.{same_lists, get_or-replicate, get_or_past, length-replicate, take_at}
use Rattle.std.proofs.lemmas.List.FromFn.{length-map-range_with_len, get_or-map-range_with_len}
use Rattle.std.proofs.lemmas.Option.{slice_get_past, slice_get-get_or}
use Rattle.gl_records.specs.declared.pixel.Pixel.{Pixel}
use Rattle.gl_records.specs.declared.size.Size.{Size}
use Rattle.gl_records.specs.Captured.{Captured}
use Rattle.gl_records.specs.After.{after}
use Rattle.gl_records.specs.Surface.{IsShaped, drawn, drawn_row, opening_pixel, opening_surface, pixel_at}
use Rattle.surface_tiles.specs.declared.tile.Tile.{Tile}
use Rattle.surface_tiles.proofs.Drawings.{row_drawn, surface_drawn}
use Rattle.surface_tiles.specs.Tiled.{Tiled, kept_pixel, opening_tile, opening_tiles, place_of, row_of, surface_of, tile_of, with_tiles}
use Rattle.gl_records.specs.Size.{IsSize}
use Rattle.gl_records.specs.Tiles.{tile_count}

slice_get-places : {X : Type 0} (f : ℕ → X) (n k : ℕ) → k < n → slice_get (map f (range_with_len 0 n)) k ≡ Some (f k)
slice_get-places {X = X} f n k within =
    let inside : k < length (map f (range_with_len 0 n)) = omega (arith, length-map-range_with_len f 0 n) in
    let place : 0 + k ≡ k = omega arith in
    slice_get-get_or (map f (range_with_len 0 n)) k (f k) inside
    ∙ ap (λ (x : X). Some x) (get_or-map-range_with_len f 0 n k k (f k) within place)

slice_get-places_past : {X : Type 0} (f : ℕ → X) (n k : ℕ) → n ≤ k → slice_get (map f (range_with_len 0 n)) k ≡ None
slice_get-places_past f n k past =
    slice_get_past (map f (range_with_len 0 n)) k (omega (arith, length-map-range_with_len f 0 n))

-- each pixel inside is that of the tiles
pub pixel_at-inside : (tiled : Tiled) (x y : ℕ) → x < tiled.size.w → y < tiled.size.h → pixel_at (surface_of tiled) x y ≡ Some (kept_pixel tiled x y)
pixel_at-inside tiled x y column row =
    ap (λ (found : Option (List Pixel)). option_and_then (λ r. slice_get r x) found) (slice_get-places (λ (k : ℕ). row_of tiled k) tiled.size.h y row)
    ∙ slice_get-places (λ (k : ℕ). kept_pixel tiled k y) tiled.size.w x column

-- and there is none outside
pub pixel_at-above : (tiled : Tiled) (x y : ℕ) → tiled.size.h ≤ y → pixel_at (surface_of tiled) x y ≡ None
pixel_at-above tiled x y past =
    ap (λ (found : Option (List Pixel)). option_and_then (λ r. slice_get r x) found) (slice_get-places_past (λ (k : ℕ). row_of tiled k) tiled.size.h y past)

right_of : (tiled : Tiled) (x y : ℕ) → tiled.size.w ≤ x → (y < tiled.size.h) ⊎ (tiled.size.h ≤ y) → pixel_at (surface_of tiled) x y ≡ None
right_of tiled x y past (inl row) =
    ap (λ (found : Option (List Pixel)). option_and_then (λ r. slice_get r x) found) (slice_get-places (λ (k : ℕ). row_of tiled k) tiled.size.h y row)
    ∙ slice_get-places_past (λ (k : ℕ). kept_pixel tiled k y) tiled.size.w x past
right_of tiled x y past (inr above) = pixel_at-above tiled x y above

pub pixel_at-right : (tiled : Tiled) (x y : ℕ) → tiled.size.w ≤ x → pixel_at (surface_of tiled) x y ≡ None
pixel_at-right tiled x y past = right_of tiled x y past (cases_lt y tiled.size.h)

-- the whole surface has its sides
pub shaped : (tiled : Tiled) → IsShaped tiled.size (surface_of tiled)
shaped tiled = record {
  height = length-map-range_with_len (λ (y : ℕ). row_of tiled y) 0 tiled.size.h;
  width = λ k d within.
      let inside : k < tiled.size.h = omega (arith, length-map-range_with_len (λ (y : ℕ). row_of tiled y) 0 tiled.size.h) in
      let place : 0 + k ≡ k = omega arith in
      ap (λ (row : List Pixel). length row) (get_or-map-range_with_len (λ (y : ℕ). row_of tiled y) 0 tiled.size.h k k d inside place)
      ∙ length-map-range_with_len (λ (x : ℕ). kept_pixel tiled x k) 0 tiled.size.w;
}

pub row_at : (tiled : Tiled) (y : ℕ) (d : List Pixel) → y < tiled.size.h → get_or (surface_of tiled) y d ≡ row_of tiled y
row_at tiled y d row =
    let place : 0 + y ≡ y = omega arith in
    get_or-map-range_with_len (λ (k : ℕ). row_of tiled k) 0 tiled.size.h y y d row place

pixel_in : (tiled : Tiled) (x y : ℕ) (d : Pixel) → x < tiled.size.w → get_or (row_of tiled y) x d ≡ kept_pixel tiled x y
pixel_in tiled x y d column =
    let place : 0 + x ≡ x = omega arith in
    get_or-map-range_with_len (λ (k : ℕ). kept_pixel tiled k y) 0 tiled.size.w x x d column place

-- where each pixel of the surface is drawn in its tile, the whole surface is drawn
pub drawn_tiles : (items : List Captured) (size : Size) (old new : List Tile)
    → ((x y : ℕ) → x < size.w → y < size.h → kept_pixel (record { size = size; tiles = new }) x y ≡ after items x y (kept_pixel (record { size = size; tiles = old }) x y))
    → surface_of (record { size = size; tiles = new }) ≡ drawn items (surface_of (record { size = size; tiles = old }))
drawn_tiles items size old new each =
    let was : Tiled = record { size = size; tiles = old } in
    let is : Tiled = record { size = size; tiles = new } in
    let height-was = length-map-range_with_len (λ (y : ℕ). row_of was y) 0 size.h in
    let height-is = length-map-range_with_len (λ (y : ℕ). row_of is y) 0 size.h in
    surface_drawn items (surface_of was) (surface_of is) (height-is ∙ sym height-was) (λ y d within.
    let row : y < size.h = omega (arith, height-was) in
    let width-was = length-map-range_with_len (λ (x : ℕ). kept_pixel was x y) 0 size.w in
    let width-is = length-map-range_with_len (λ (x : ℕ). kept_pixel is x y) 0 size.w in
    row_at is y d row
    ∙ row_drawn items y (row_of was y) (row_of is y) (width-is ∙ sym width-was) (λ x e inside.
    let column : x < size.w = omega (arith, width-was) in
    pixel_in is x y e column
    ∙ each x y column row
    ∙ ap (λ (pixel : Pixel). after items x y pixel) (sym (pixel_in was x y e column)))
    ∙ ap (λ (r : List Pixel). drawn_row items y r) (sym (row_at was y d row)))

-- ---- the surface before anything is drawn
get_or-filled : {X : Type 0} (n k : ℕ) (x : X) → (k < n) ⊎ (n ≤ k) → get_or (replicate n x) k x ≡ x
get_or-filled {X} n k x (inl within) = get_or-replicate {A = X} n k x x within
get_or-filled {X} n k x (inr past) = get_or_past (replicate n x) k x (omega (arith, length-replicate {A = X} n x))

kept-opening : (size : Size) (x y : ℕ) → kept_pixel (opening_tiles size) x y ≡ opening_pixel
kept-opening size x y =
    ap (λ (tile : Tile). get_or tile.pixels (place_of x y) opening_pixel) (get_or-filled (tile_count size) (tile_of size x y) opening_tile (cases_lt (tile_of size x y) (tile_count size)))
    ∙ get_or-filled 256 (place_of x y) opening_pixel (cases_lt (place_of x y) 256)

row-opening : (size : Size) (y : ℕ) → row_of (opening_tiles size) y ≡ replicate size.w opening_pixel
row-opening size y =
    let len = length-map-range_with_len (λ (x : ℕ). kept_pixel (opening_tiles size) x y) 0 size.w in
    same_lists (row_of (opening_tiles size) y) (replicate size.w opening_pixel) (len ∙ sym (length-replicate size.w opening_pixel)) (λ x d within.
    let column : x < size.w = omega (arith, len) in
    pixel_in (opening_tiles size) x y d column ∙ kept-opening size x y ∙ sym (get_or-replicate size.w x opening_pixel d column))

pub opened : (size : Size) → surface_of (opening_tiles size) ≡ opening_surface size
opened size =
    let row = replicate size.w opening_pixel in
    let len = length-map-range_with_len (λ (y : ℕ). row_of (opening_tiles size) y) 0 size.h in
    same_lists (surface_of (opening_tiles size)) (opening_surface size) (len ∙ sym (length-replicate size.h row)) (λ y d within.
    let inside : y < size.h = omega (arith, len) in
    row_at (opening_tiles size) y d inside ∙ row-opening size y ∙ sym (get_or-replicate size.h y row d inside))

-- ---- a shaped surface has the sides of its tiles
size-same : (a b : Size) → a.w ≡ b.w → a.h ≡ b.h → a ≡ b
size-same a b width height =
    ap (λ (w : ℕ). let s : Size = record { w = w; h = a.h } in s) width
    ∙ ap (λ (h : ℕ). let s : Size = record { w = b.w; h = h } in s) height

pub same_size : (size : Size) (tiled : Tiled) → IsSize tiled.size → IsShaped size (surface_of tiled) → size ≡ tiled.size
same_size size tiled sides is =
    let own = shaped tiled in
    let some : 0 < length (surface_of tiled) = omega (arith, own.height, sides.2) in
    size-same size tiled.size (sym (is.width 0 [] some) ∙ own.width 0 [] some) (sym is.height ∙ own.height)

-- ---- as many tiles as before are all of them
pub with_tiles_is : (tiled : Tiled) (tiles : List Tile) → length tiles ≡ length tiled.tiles → with_tiles tiled tiles ≡ record { size = tiled.size; tiles = tiles }
with_tiles_is tiled tiles same =
    ap (λ (ts : List Tile). let next : Tiled = record { size = tiled.size; tiles = ts } in next) (take_at tiles (drop (length tiles) tiled.tiles) (length tiled.tiles) same)
