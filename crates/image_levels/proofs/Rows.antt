-- Texels by their columns and rows.
use Rattle.std.proofs.Common.{◌≡◌, ◌<◌, ◌≤◌, ◌+◌, ◌*◌, ◌++◌, ℕ, zero, suc, List, [], ◌∷◌, length, length-append, map, get_or, slice_set, inl, inr, take, drop, refl, sym, ap, ◌∙◌, arith}
use Rattle.std.specs.List.{flat_map, range_with_len}
use Rattle.std.proofs.lemmas.Grind.{same_number_lists}
use Rattle.std.proofs.lemmas.Bool.{cases_lt}
use Rattle.std.proofs.lemmas.List.{get_or-set_other, get_or-set_same, get_or-take, get_or-drop, take-append-drop, length-drop, length-take-le}
use Rattle.std.proofs.lemmas.List.FromFn.{get_or-map-range_with_len, length-map-range_with_len}
use Rattle.std.proofs.Math.Nat.{mul-le-mul_right}
use Rattle.image_levels.specs.Texels.{texel_of, texels_by}

-- rows from row a on
rows-are : (f : ℕ → ℕ → ℕ) (w n a : ℕ) (xs : List ℕ) → length xs ≡ n * w
    → ((x y : ℕ) → x < w → y < n → get_or xs (y * w + x) 0 ≡ f x (a + y))
    → xs ≡ flat_map (λ y. map (λ x. f x y) (range_with_len 0 w)) (range_with_len a n)
rows-are f w zero a [] size each = refl
rows-are f w zero a (x ∷ xs) size each = absurd (omega (arith, size))
rows-are f w (suc n) a xs size each =
    let more : suc n * w ≡ w + n * w = grind arith in
    let front_size : length (take w xs) ≡ w = length-take-le w xs (omega (arith, size, more)) in
    let row_size : length (map (λ x. f x a) (range_with_len 0 w)) ≡ w = length-map-range_with_len (λ x. f x a) 0 w in
    let first : take w xs ≡ map (λ x. f x a) (range_with_len 0 w) =
    same_number_lists _ _ (front_size ∙ sym row_size) (λ k inside.
    let across : k < w = omega (arith, front_size, inside) in
    let bottom : k ≡ 0 * w + k = omega arith in
    let row : a + 0 ≡ a = omega arith in
    get_or-take w xs k 0 across ∙ ap (λ (p : ℕ). get_or xs p 0) bottom ∙ each k 0 across (omega arith)
    ∙ ap (λ (y : ℕ). f k y) row
    ∙ sym (get_or-map-range_with_len (λ x. f x a) 0 w k k 0 across (omega arith))) in
    let rest_size : length (drop w xs) ≡ n * w = omega (arith, length-drop w xs, size, more) in
    let rest = rows-are f w n (a + 1) (drop w xs) rest_size (λ x y across up.
    let up_more : suc y * w ≡ w + y * w = grind arith in
    let place : w + (y * w + x) ≡ suc y * w + x = omega (arith, up_more) in
    let row : a + suc y ≡ a + 1 + y = omega arith in
    get_or-drop w xs (y * w + x) 0 ∙ ap (λ (p : ℕ). get_or xs p 0) place ∙ each x (suc y) across (omega (arith, up))
    ∙ ap (λ (r : ℕ). f x r) row) in
    sym (take-append-drop w xs)
    ∙ ap (λ (ys : List ℕ). ys ++ drop w xs) first
    ∙ ap (λ (ys : List ℕ). map (λ x. f x a) (range_with_len 0 w) ++ ys) rest

-- texels that are each what it is by its column and row
pub texels_by-is : (w h : ℕ) (f : ℕ → ℕ → ℕ) (xs : List ℕ) → length xs ≡ w * h
    → ((x y : ℕ) → x < w → y < h → texel_of w xs x y ≡ f x y)
    → xs ≡ texels_by w h f
unfolding texels_by
texels_by-is w h f xs size each =
    let turned : w * h ≡ h * w = grind arith in
    rows-are f w h 0 xs (size ∙ turned) (λ x y across up.
    let row : y ≡ 0 + y = omega arith in
    each x y across up ∙ ap (λ (r : ℕ). f x r) row)

-- part of a row lies in the level
pub row-fits : (across up x w y : ℕ) → x + w ≤ across → y < up → y * across + x + w ≤ across * up
row-fits across up x w y inside low =
    let rows : suc y * across ≤ up * across = mul-le-mul_right across (omega (arith, low)) in
    let more : suc y * across ≡ across + y * across = grind arith in
    let turned : up * across ≡ across * up = grind arith in
    omega (arith, rows, more, turned, inside)

-- one texel more of a row is written
pub row-more : (xs : List ℕ) (f : ℕ → ℕ) (across y n value : ℕ) → y * across + n < length xs → value ≡ f n
    → ((x : ℕ) → x < n → texel_of across xs x y ≡ f x)
    → (x : ℕ) → x < n + 1 → texel_of across (slice_set xs (y * across + n) value) x y ≡ f x
row-more xs f across y n value inside is made x within = elim (cases_lt x n) [
  | inl before ↦ get_or-set_other xs (y * across + n) (y * across + x) value 0 (λ e. omega (arith, e, before)) ∙ made x before
  | inr from ↦
      let last : x ≡ n = omega (arith, from, within) in
      ap (λ (k : ℕ). texel_of across (slice_set xs (y * across + n) value) k y) last
      ∙ get_or-set_same xs (y * across + n) value 0 inside ∙ is ∙ sym (ap f last)
]

-- the rows below it stay
pub row-below : (xs old : List ℕ) (across y n value : ℕ) → ((k : ℕ) → k < y * across → get_or xs k 0 ≡ get_or old k 0)
    → (k : ℕ) → k < y * across → get_or (slice_set xs (y * across + n) value) k 0 ≡ get_or old k 0
row-below xs old across y n value same k low = get_or-set_other xs (y * across + n) k value 0 (λ e. omega (arith, e, low)) ∙ same k low

-- one row more is made
pub rows-more : (before after : List ℕ) (f : ℕ → ℕ → ℕ) (across n : ℕ)
    → ((x y : ℕ) → x < across → y < n → texel_of across before x y ≡ f x y)
    → ((x : ℕ) → x < across → texel_of across after x n ≡ f x n)
    → ((k : ℕ) → k < n * across → get_or after k 0 ≡ get_or before k 0)
    → (x y : ℕ) → x < across → y < n + 1 → texel_of across after x y ≡ f x y
rows-more before after f across n made row below x y column within = elim (cases_lt y n) [
  | inl low ↦
      let rows : suc y * across ≤ n * across = mul-le-mul_right across (omega (arith, low)) in
      let more : suc y * across ≡ across + y * across = grind arith in
      below (y * across + x) (omega (arith, rows, more, column)) ∙ made x y column low
  | inr from ↦
      let last : y ≡ n = omega (arith, from, within) in
      ap (λ (r : ℕ). texel_of across after x r) last ∙ row x column ∙ sym (ap (λ (r : ℕ). f x r) last)
]

-- how many texels there are
length-rows : (f : ℕ → ℕ → ℕ) (w a n : ℕ) → length (flat_map (λ y. map (λ x. f x y) (range_with_len 0 w)) (range_with_len a n)) ≡ n * w
length-rows f w a zero = omega arith
length-rows f w a (suc n) =
    let more : suc n * w ≡ w + n * w = grind arith in
    let both = length-append (map (λ x. f x a) (range_with_len 0 w)) (flat_map (λ y. map (λ x. f x y) (range_with_len 0 w)) (range_with_len (a + 1) n)) in
    let first = length-map-range_with_len (λ x. f x a) 0 w in
    let rest = length-rows f w (a + 1) n in
    omega (arith, more, both, first, rest)

pub length-texels_by : (w h : ℕ) (f : ℕ → ℕ → ℕ) → length (texels_by w h f) ≡ w * h
unfolding texels_by
length-texels_by w h f =
    let turned : h * w ≡ w * h = grind arith in
    length-rows f w 0 h ∙ turned
