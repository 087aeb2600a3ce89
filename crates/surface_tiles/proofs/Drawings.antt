-- A row and a surface after items, from each of their pixels.
use Rattle.std.proofs.Common.{◌≡◌, ◌<◌, ◌+◌, ℕ, List, [], ◌∷◌, length, get_or, map, refl, sym, ap, ◌∙◌, arith}
use Rattle.std.specs.List.{enumerate_from}
use Rattle.std.proofs.lemmas.List.{same_lists, get_or-map, length-map}
use Rattle.std.proofs.lemmas.List.FromFn.{length-enumerate_from, get_or-enumerate_from}
use Rattle.gl_records.specs.Captured.{Captured}
use Rattle.gl_records.specs.declared.pixel.Pixel.{Pixel}
use Rattle.gl_records.specs.declared.size.Size.{Size}
use Rattle.gl_records.specs.After.{after}
use Rattle.gl_records.specs.Surface.{IsShaped, Surface, drawn_row, drawn}

-- a list whose elements are each made of the one at the same place
length-places : {X : Type 0} (f : ℕ → X → X) (xs : List X) → length (map (λ at. f at.0 at.1) (enumerate_from 0 xs)) ≡ length xs
length-places {X = X} f xs = length-map (enumerate_from 0 xs) (λ (at : ℕ × X). f at.0 at.1) ∙ length-enumerate_from 0 xs

get_or-places : {X : Type 0} (f : ℕ → X → X) (xs : List X) (k : ℕ) (d : X) → k < length xs
    → get_or (map (λ at. f at.0 at.1) (enumerate_from 0 xs)) k d ≡ f k (get_or xs k d)
get_or-places {X = X} f xs k d within =
    let k-pairs : k < length (enumerate_from 0 xs) = omega (arith, length-enumerate_from 0 xs) in
    let at = get_or-map (λ (at : ℕ × X). f at.0 at.1) (enumerate_from 0 xs) k (k, d) d k-pairs in
    let pair = get_or-enumerate_from 0 xs k (k, d) within in
    let zero : 0 + k ≡ k = omega arith in
    at ∙ ap (λ (p : ℕ × X). f p.0 p.1) pair ∙ ap (λ (n : ℕ). f n (get_or xs k d)) zero

places_mapped : {X : Type 0} (f : ℕ → X → X) (old new : List X) → length new ≡ length old → ((k : ℕ) (d : X) → k < length old → get_or new k d ≡ f k (get_or old k d))
    → new ≡ map (λ at. f at.0 at.1) (enumerate_from 0 old)
places_mapped {X = X} f old new same each =
    same_lists new (map (λ at. f at.0 at.1) (enumerate_from 0 old)) (same ∙ sym (length-places f old)) (λ k d within.
    let k-old : k < length old = omega arith in
    each k d k-old ∙ sym (get_or-places f old k d k-old))

-- a row is drawn where each of its pixels is
pub row_drawn : (items : List Captured) (y : ℕ) (old new : List Pixel) → length new ≡ length old → ((k : ℕ) (d : Pixel) → k < length old → get_or new k d ≡ after items k y (get_or old k d))
    → new ≡ drawn_row items y old
row_drawn items y old new same each = places_mapped (λ x pixel. after items x y pixel) old new same each

-- a surface is drawn where each of its rows is
pub surface_drawn : (items : List Captured) (old new : Surface) → length new ≡ length old → ((k : ℕ) (d : List Pixel) → k < length old → get_or new k d ≡ drawn_row items k (get_or old k d))
    → new ≡ drawn items old
surface_drawn items old new same each = places_mapped (λ y row. drawn_row items y row) old new same each

-- no item changes nothing
pub drawn-nil : (surface : Surface) → drawn [] surface ≡ surface
drawn-nil surface = sym (surface_drawn [] surface surface refl (λ k d within. row_drawn [] k (get_or surface k d) (get_or surface k d) refl (λ i e inside. refl)))

-- ---- the rows and pixels of a drawn surface
length-drawn_row : (items : List Captured) (y : ℕ) (row : List Pixel) → length (drawn_row items y row) ≡ length row
length-drawn_row items y row = length-places (λ x pixel. after items x y pixel) row

get_or-drawn_row : (items : List Captured) (y : ℕ) (row : List Pixel) (k : ℕ) (d : Pixel) → k < length row → get_or (drawn_row items y row) k d ≡ after items k y (get_or row k d)
get_or-drawn_row items y row k d within = get_or-places (λ x pixel. after items x y pixel) row k d within

length-drawn : (items : List Captured) (surface : Surface) → length (drawn items surface) ≡ length surface
length-drawn items surface = length-places (λ y row. drawn_row items y row) surface

get_or-drawn : (items : List Captured) (surface : Surface) (k : ℕ) (d : List Pixel) → k < length surface → get_or (drawn items surface) k d ≡ drawn_row items k (get_or surface k d)
get_or-drawn items surface k d within = get_or-places (λ y row. drawn_row items y row) surface k d within

-- the first item acts before the others
drawn_row-cons : (item : Captured) (items : List Captured) (y : ℕ) (row : List Pixel) → drawn_row (item ∷ items) y row ≡ drawn_row items y (drawn_row (item ∷ []) y row)
drawn_row-cons item items y row =
    let size = length-drawn_row (item ∷ items) y row ∙ sym (length-drawn_row (item ∷ []) y row) in
    row_drawn items y (drawn_row (item ∷ []) y row) (drawn_row (item ∷ items) y row) size (λ k d within.
    let inside : k < length row = omega (arith, length-drawn_row (item ∷ []) y row) in
    get_or-drawn_row (item ∷ items) y row k d inside
    ∙ ap (λ (pixel : Pixel). after items k y pixel) (sym (get_or-drawn_row (item ∷ []) y row k d inside)))

pub drawn-cons : (item : Captured) (items : List Captured) (surface : Surface) → drawn (item ∷ items) surface ≡ drawn items (drawn (item ∷ []) surface)
drawn-cons item items surface =
    let size = length-drawn (item ∷ items) surface ∙ sym (length-drawn (item ∷ []) surface) in
    surface_drawn items (drawn (item ∷ []) surface) (drawn (item ∷ items) surface) size (λ k d within.
    let inside : k < length surface = omega (arith, length-drawn (item ∷ []) surface) in
    get_or-drawn (item ∷ items) surface k d inside
    ∙ drawn_row-cons item items k (get_or surface k d)
    ∙ ap (λ (row : List Pixel). drawn_row items k row) (sym (get_or-drawn (item ∷ []) surface k d inside)))

-- drawing keeps the sides
pub drawn-shaped : (size : Size) (items : List Captured) (surface : Surface) → IsShaped size surface → IsShaped size (drawn items surface)
drawn-shaped size items surface shaped = record {
  height = length-drawn items surface ∙ shaped.height;
  width = λ k d within.
      let inside : k < length surface = omega (arith, length-drawn items surface) in
      rw (get_or-drawn items surface k d inside)
      (length-drawn_row items k (get_or surface k d) ∙ shaped.width k d inside);
}
