-- The pixels of a surface on which items were drawn.
use Rattle.std.proofs.Common.{◌≡◌, ◌+◌, ℕ, zero, suc, List, [], ◌∷◌, map, Option, Some, None, refl, ap, ◌∙◌, arith}
use Rattle.std.specs.Prelude.{option_and_then, slice_get}
use Rattle.std.specs.List.{enumerate_from}
use Rattle.std.specs.Option.{option_map}
use Rattle.gl_records.specs.declared.pixel.Pixel.{Pixel}
use Rattle.gl_records.specs.After.{after}
use Rattle.gl_records.specs.Captured.{Captured}
use Rattle.gl_records.specs.Surface.{Surface, drawn_row, drawn, pixel_at}

-- a list whose elements are each made of the one at the same place
slice_get-places_from : {X : Type 0} (f : ℕ → X → X) (n : ℕ) (xs : List X) (k : ℕ)
    → slice_get (map (λ at. f at.0 at.1) (enumerate_from n xs)) k ≡ option_map (f (n + k)) (slice_get xs k)
slice_get-places_from f n [] k = refl
slice_get-places_from f n (x ∷ xs) zero = let same : n ≡ n + 0 = omega arith in ap (λ (m : ℕ). Some (f m x)) same
slice_get-places_from f n (x ∷ xs) (suc k) =
    let same : n + 1 + k ≡ n + suc k = omega arith in
    slice_get-places_from f (n + 1) xs k ∙ ap (λ (m : ℕ). option_map (f m) (slice_get xs k)) same

slice_get-places : {X : Type 0} (f : ℕ → X → X) (xs : List X) (k : ℕ)
    → slice_get (map (λ at. f at.0 at.1) (enumerate_from 0 xs)) k ≡ option_map (f k) (slice_get xs k)
slice_get-places f xs k =
    let same : 0 + k ≡ k = omega arith in
    slice_get-places_from f 0 xs k ∙ ap (λ (m : ℕ). option_map (f m) (slice_get xs k)) same

pixel_at-row : (items : List Captured) (x y : ℕ) (found : Option (List Pixel))
    → option_and_then (λ row. slice_get row x) (option_map (drawn_row items y) found) ≡ option_map (after items x y) (option_and_then (λ row. slice_get row x) found)
pixel_at-row items x y None = refl
pixel_at-row items x y (Some row) = slice_get-places (λ (k : ℕ) (pixel : Pixel). after items k y pixel) row x

-- each pixel after the items, and none where there was none
pub pixel_at-drawn : (items : List Captured) (surface : Surface) (x y : ℕ) → pixel_at (drawn items surface) x y ≡ option_map (after items x y) (pixel_at surface x y)
pixel_at-drawn items surface x y =
    ap (λ (found : Option (List Pixel)). option_and_then (λ row. slice_get row x) found) (slice_get-places (λ (k : ℕ) (row : List Pixel). drawn_row items k row) surface y)
    ∙ pixel_at-row items x y (slice_get surface y)
