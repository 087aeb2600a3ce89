-- An item on a list of tiles: tiles side by side join, tiles outside of its box stay, one tile is drawn.
use Rattle.std.specs.Prelude.{◌≡◌, ◌≢◌, ℕ, pos, ◌+◌, ◌-◌, ◌*◌, ◌/◌, ◌%◌, ◌<◌, ◌≤◌, ◌≤ℤ◌, ◌<ℤ◌, ◌⊎◌, false, ◌&&◌, List, [], ◌∷◌, length, get_or, slice_set, Option, IsTrue, int_le, int_lt}
use Rattle.std.proofs.Common.{refl, sym, ap, inl, inr, ◌∙◌, arith}
use Rattle.std.proofs.lemmas.Bool.{and_parts, and_left, cases_lt, false_from_ne_true}
use Rattle.std.proofs.lemmas.Int.{ints}
use Rattle.std.proofs.lemmas.List.{get_or-set_same, get_or-set_other, length-set}
use Rattle.std.proofs.lemmas.Nat.{mul-add-lt, same_from_place}
use Rattle.std.proofs.Math.Nat.{mul-le-mul_right}
use Rattle.gl_records.specs.declared.clear.ClearItem.{ClearItem}
use Rattle.gl_records.specs.declared.frag_state.FragState.{FragState}
use Rattle.gl_records.specs.declared.level.ImageSet.{ImageSet}
use Rattle.gl_records.specs.declared.pixel.Pixel.{Pixel}
use Rattle.gl_records.specs.declared.pixel_box.PixelBox.{PixelBox}
use Rattle.gl_records.specs.declared.prim.Primitive.{Primitive}
use Rattle.gl_records.specs.declared.size.Size.{Size}
use Rattle.gl_records.specs.declared.tile.TileRect.{TileRect}
use Rattle.gl_records.specs.After.{step}
use Rattle.gl_records.specs.Captured.{Captured, Draw, Clear}
use Rattle.gl_records.specs.Coverage.{covers}
use Rattle.gl_records.specs.PixelBox.{holds}
use Rattle.gl_records.specs.Scissor.{scissor_holds}
use Rattle.gl_records.specs.Surface.{drawn}
use Rattle.gl_records.specs.Tiles.{tile_count, tiles_along}
use Rattle.gl_records.specs.Valid.{IsDrawable}
use Rattle.surface_tiles.specs.declared.tile.Tile.{Tile}
use Rattle.surface_tiles.specs.Tiled.{kept_pixel, opening_tile, place_of, surface_of, tile_of}
use Rattle.surface_tiles.proofs.Whole.{drawn_tiles}
use Rattle.whole_surface.specs.Parts.{AreDrawn, HoldsColumns, HoldsRows, IsSpan, box_of, pixel_in, tile_step}

-- ---- outside of the box
record IsInBox (area : PixelBox) (x y : ℕ) : Type 0 where
  left : area.x0 ≤ℤ pos x
  right : pos x <ℤ area.x1
  bottom : area.y0 ≤ℤ pos y
  top : pos y <ℤ area.y1

IsInBox-from : (area : PixelBox) (x y : ℕ) → IsTrue (holds area x y) → IsInBox area x y
IsInBox-from area x y h =
    let three = and_parts (int_le area.x0 (pos x) && int_lt (pos x) area.x1 && int_le area.y0 (pos y)) (int_lt (pos y) area.y1) h in
    let two = and_parts (int_le area.x0 (pos x) && int_lt (pos x) area.x1) (int_le area.y0 (pos y)) three.0 in
    let one = and_parts (int_le area.x0 (pos x)) (int_lt (pos x) area.x1) two.0 in
    record {
      left = omega (arith, ints, one.0);
      right = omega (arith, ints, one.1);
      bottom = omega (arith, ints, two.1);
      top = omega (arith, ints, three.1);
    }

not_shown : (prim : Primitive) (state : FragState) (first second : Option ImageSet) (x y : ℕ) (pixel : Pixel) → covers prim (pos x) (pos y) ≡ false
    → step (Draw prim state first second) x y pixel ≡ pixel
not_shown prim state first second x y pixel h = rw (and_left (covers prim (pos x) (pos y)) (scissor_holds state.scissor x y) h) refl

not_held : (clear : ClearItem) (x y : ℕ) (pixel : Pixel) → holds clear.area x y ≡ false → step (Clear clear) x y pixel ≡ pixel
not_held clear x y pixel h = rw h refl

-- a pixel of the surface outside of the item's box stays
outside : (item : Captured) (size : Size) (x y : ℕ) (pixel : Pixel) → IsDrawable item size → x < size.w → y < size.h → (IsInBox (box_of item) x y → ⊥)
    → step item x y pixel ≡ pixel
outside (Draw prim state first second) size x y pixel valid column row out =
    not_shown prim state first second x y pixel (false_from_ne_true (covers prim (pos x) (pos y)) (λ covered. out (IsInBox-from prim.bounds x y (valid.primitive.holds_covered x y column row covered))))
outside (Clear clear) size x y pixel valid column row out =
    not_held clear x y pixel (false_from_ne_true (holds clear.area x y) (λ held. out (IsInBox-from clear.area x y held)))

-- ---- tiles side by side
pub tiles_same : (item : Captured) (size : Size) (from to : ℕ) (tiles : List Tile)
    → ((x y : ℕ) (pixel : Pixel) → x < size.w → y < size.h → from ≤ tile_of size x y → tile_of size x y < to → step item x y pixel ≡ pixel)
    → AreDrawn item size from to tiles tiles
tiles_same item size from to tiles same = record {
  len = refl;
  drawn = λ x y column row low high. sym (same x y (kept_pixel (record { size = size; tiles = tiles }) x y) column row low high);
  before = λ t less. refl;
  behind = λ t more. refl;
}

pub tiles_none : (item : Captured) (size : Size) (from : ℕ) (tiles : List Tile) → AreDrawn item size from from tiles tiles
tiles_none item size from tiles = tiles_same item size from from tiles (λ x y pixel column row low high. absurd (omega arith))

drawn_of_two : {item : Captured} {size : Size} {a b c : ℕ} {old mid new : List Tile} → AreDrawn item size a b old mid → AreDrawn item size b c mid new
    → (x y : ℕ) → x < size.w → y < size.h → a ≤ tile_of size x y → tile_of size x y < c → (tile_of size x y < b) ⊎ (b ≤ tile_of size x y)
    → kept_pixel (record { size = size; tiles = new }) x y ≡ step item x y (kept_pixel (record { size = size; tiles = old }) x y)
drawn_of_two {item} {size} first second x y column row low high (inl less) =
    ap (λ (tile : Tile). pixel_in tile (place_of x y)) (second.before (tile_of size x y) less) ∙ first.drawn x y column row low less
drawn_of_two {item} {size} first second x y column row low high (inr more) =
    second.drawn x y column row more high
    ∙ ap (λ (tile : Tile). step item x y (pixel_in tile (place_of x y))) (first.behind (tile_of size x y) more)

pub tiles_join : {item : Captured} {size : Size} {a b c : ℕ} {old mid new : List Tile} → a ≤ b → b ≤ c → AreDrawn item size a b old mid → AreDrawn item size b c mid new
    → AreDrawn item size a c old new
tiles_join {item} {size} {a} {b} {c} low high first second = record {
  len = second.len ∙ first.len;
  drawn = λ x y column row from to. drawn_of_two first second x y column row from to (cases_lt (tile_of size x y) b);
  before = λ t less. let lower : t < b = omega arith in second.before t lower ∙ first.before t less;
  behind = λ t more. let higher : b ≤ t = omega arith in second.behind t more ∙ first.behind t higher;
}

-- ---- tiles that the box doesn't meet
column_below : (size : Size) (x : ℕ) → x < size.w → x / 16 < tiles_along size.w
column_below size x h = omega arith

row_below : (size : Size) (y : ℕ) → y < size.h → y / 16 < tiles_along size.h
row_below size y h = omega arith

-- the row of tiles and the column of a tile's number
pub place_from : (size : Size) (x y band column : ℕ) → x < size.w → column < tiles_along size.w → tile_of size x y ≡ band * tiles_along size.w + column
    → (y / 16 ≡ band) × (x / 16 ≡ column)
place_from size x y band column inside low is = same_from_place (y / 16) (x / 16) band column (tiles_along size.w) (column_below size x inside) low is

-- between two numbers of one band lie its columns between the two
columns_from : (size : Size) (x y band first end : ℕ) → x < size.w → end ≤ tiles_along size.w
    → band * tiles_along size.w + first ≤ tile_of size x y → tile_of size x y < band * tiles_along size.w + end → (first ≤ x / 16) × (x / 16 < end)
columns_from size x y band first end inside within low high =
    let t = tile_of size x y in
    let base = band * tiles_along size.w in
    let column = t - base in
    let fits : column < tiles_along size.w = omega arith in
    let is : t ≡ base + column = omega arith in
    let at = place_from size x y band column inside fits is in
    (omega (arith, at.1), omega (arith, at.1))

pub columns_outside : (item : Captured) (size : Size) (band first end a b : ℕ) (tiles : List Tile) → IsDrawable item size → b ≤ tiles_along size.w
    → HoldsColumns (box_of item) first end → (b ≤ first) ⊎ (end ≤ a)
    → AreDrawn item size (band * tiles_along size.w + a) (band * tiles_along size.w + b) tiles tiles
columns_outside item size band first end a b tiles valid within box (inl left) =
    tiles_same item size _ _ tiles (λ x y pixel column row low high.
    let at = columns_from size x y band a b column within low high in
    outside item size x y pixel valid column row (λ inside. omega (arith, ints, inside.left, box.from, at.1)))
columns_outside item size band first end a b tiles valid within box (inr right) =
    tiles_same item size _ _ tiles (λ x y pixel column row low high.
    let at = columns_from size x y band a b column within low high in
    outside item size x y pixel valid column row (λ inside. omega (arith, ints, inside.right, box.to, at.0)))

below_of : (w r c band : ℕ) → r * w + c < band * w → (r < band) ⊎ (band ≤ r) → r < band
below_of w r c band less (inl is) = is
below_of w r c band less (inr not) = absurd (omega (arith, mul-le-mul_right w not))

above_of : (w r c band : ℕ) → c < w → band * w ≤ r * w + c → (r < band) ⊎ (band ≤ r) → band ≤ r
above_of w r c band inside more (inr is) = is
above_of w r c band inside more (inl not) =
    let next : r + 1 ≤ band = omega arith in
    let whole : (r + 1) * w ≡ r * w + w = omega arith in
    absurd (omega (arith, mul-le-mul_right w next, whole))

-- between the first numbers of two bands lie the rows of tiles between the two
rows_from : (size : Size) (x y a b : ℕ) → x < size.w → a * tiles_along size.w ≤ tile_of size x y → tile_of size x y < b * tiles_along size.w
    → (a ≤ y / 16) × (y / 16 < b)
rows_from size x y a b inside low high = (
  above_of (tiles_along size.w) (y / 16) (x / 16) a (column_below size x inside) low (cases_lt (y / 16) a),
  below_of (tiles_along size.w) (y / 16) (x / 16) b high (cases_lt (y / 16) b),
)

pub rows_outside : (item : Captured) (size : Size) (first end a b : ℕ) (tiles : List Tile) → IsDrawable item size
    → HoldsRows (box_of item) first end → (b ≤ first) ⊎ (end ≤ a)
    → AreDrawn item size (a * tiles_along size.w) (b * tiles_along size.w) tiles tiles
rows_outside item size first end a b tiles valid box (inl below) =
    tiles_same item size _ _ tiles (λ x y pixel column row low high.
    let at = rows_from size x y a b column low high in
    outside item size x y pixel valid column row (λ inside. omega (arith, ints, inside.bottom, box.from, at.1)))
rows_outside item size first end a b tiles valid box (inr above) =
    tiles_same item size _ _ tiles (λ x y pixel column row low high.
    let at = rows_from size x y a b column low high in
    outside item size x y pixel valid column row (λ inside. omega (arith, ints, inside.top, box.to, at.0)))

-- ---- one tile
place_column : (x y : ℕ) → place_of x y % 16 ≡ x % 16
place_column x y = omega arith

place_row : (x y : ℕ) → place_of x y / 16 ≡ y % 16
place_row x y = omega arith

-- what the span makes of a pixel of the surface is what the item makes of it
at_place : (item : Captured) (size : Size) (band column : ℕ) (rect : TileRect) (x y : ℕ) (old new : Tile) → rect.x0 ≡ 16 * column → rect.y0 ≡ 16 * band
    → x / 16 ≡ column → y / 16 ≡ band → IsSpan (tile_step item rect) 0 256 old new → pixel_in new (place_of x y) ≡ step item x y (pixel_in old (place_of x y))
at_place item size band column rect x y old new left bottom at_column at_band span =
    let within : place_of x y < 256 = omega arith in
    let across : rect.x0 + place_of x y % 16 ≡ x = omega (arith, place_column x y) in
    let up : rect.y0 + place_of x y / 16 ≡ y = omega (arith, place_row x y) in
    span.made (place_of x y) (omega arith) within within
    ∙ ap (λ (k : ℕ). step item k (rect.y0 + place_of x y / 16) (pixel_in old (place_of x y))) across
    ∙ ap (λ (k : ℕ). step item x k (pixel_in old (place_of x y))) up

pub tile_drawn : (item : Captured) (size : Size) (band column : ℕ) (rect : TileRect) (old new : List Tile) (tile : Tile)
    → rect.x0 ≡ 16 * column → rect.y0 ≡ 16 * band → column < tiles_along size.w → band * tiles_along size.w + column < length old
    → IsSpan (tile_step item rect) 0 256 (get_or old (band * tiles_along size.w + column) opening_tile) tile
    → new ≡ slice_set old (band * tiles_along size.w + column) tile
    → AreDrawn item size (band * tiles_along size.w + column) (band * tiles_along size.w + (column + 1)) old new
tile_drawn item size band column rect old new tile left bottom inside within span is =
    let number = band * tiles_along size.w + column in
    let here : get_or new number opening_tile ≡ tile = ap (λ (tiles : List Tile). get_or tiles number opening_tile) is ∙ get_or-set_same old number tile opening_tile within in
    let other : (t : ℕ) → t ≢ number → get_or new t opening_tile ≡ get_or old t opening_tile =
    λ t h. ap (λ (tiles : List Tile). get_or tiles t opening_tile) is ∙ get_or-set_other old number t tile opening_tile h in
    record {
      len = ap (λ (tiles : List Tile). length tiles) is ∙ length-set old number tile;
      drawn = λ x y across up low high.
          let same : tile_of size x y ≡ number = omega arith in
          let at = place_from size x y band column across inside same in
          ap (λ (t : ℕ). pixel_in (get_or new t opening_tile) (place_of x y)) same
          ∙ ap (λ (found : Tile). pixel_in found (place_of x y)) here
          ∙ at_place item size band column rect x y (get_or old number opening_tile) tile left bottom at.1 at.0 span
          ∙ ap (λ (t : ℕ). step item x y (pixel_in (get_or old t opening_tile) (place_of x y))) (sym same);
      before = λ t less. other t (λ same. omega arith);
      behind = λ t more. other t (λ same. omega arith);
    }

-- ---- the whole surface
-- the tiles are the same for another item that makes the same of each pixel
pub drawn_as : {item other : Captured} {size : Size} {from to : ℕ} {old new : List Tile} → ((x y : ℕ) (pixel : Pixel) → step item x y pixel ≡ step other x y pixel)
    → AreDrawn item size from to old new → AreDrawn other size from to old new
drawn_as {size} {old} same are = record {
  len = are.len;
  drawn = λ x y column row low high.
      are.drawn x y column row low high ∙ same x y (kept_pixel (record { size = size; tiles = old }) x y);
  before = are.before;
  behind = are.behind;
}

pub all_drawn : (item : Captured) (size : Size) (old new : List Tile) → AreDrawn item size 0 (tile_count size) old new
    → surface_of (record { size = size; tiles = new }) ≡ drawn (item ∷ []) (surface_of (record { size = size; tiles = old }))
all_drawn item size old new are =
    drawn_tiles (item ∷ []) size old new (λ x y column row.
    let c = column_below size x column in
    let r = row_below size y row in
    let within : tile_of size x y < tile_count size = (mul-add-lt (y / 16) (tiles_along size.w) (x / 16) (tiles_along size.h) r c) in
    are.drawn x y column row (omega arith) within)
