-- Lists that are made from the places up to a bound, one place further.
use Rattle.std.proofs.Common.{◌≡◌, ◌+◌, ℕ, zero, suc, List, [], ◌∷◌, ◌++◌, map, append_assoc, add-one, refl, sym, ap, ◌∙◌, arith}
use Rattle.std.specs.List.{flat_map, range_with_len, sum_by}
use Rattle.std.proofs.lemmas.List.{flat_map_more}
use Rattle.std.proofs.lemmas.List.Sums.{sum_by-append}
use Rattle.std.proofs.lemmas.List.FromFn.{map-range_with_len_more}

-- the places from a on, and one more
range-suc : (a n : ℕ) → range_with_len a (suc n) ≡ range_with_len a n ++ (a + n) ∷ []
range-suc a zero = let e : a ≡ a + 0 = omega arith in ap (λ (k : ℕ). k ∷ []) e
range-suc a (suc n) =
    let e : a + 1 + n ≡ a + suc n = omega arith in
    ap (λ (xs : List ℕ). a ∷ xs) (range-suc (a + 1) n ∙ ap (λ (k : ℕ). range_with_len (a + 1) n ++ k ∷ []) e)

pub range_more : (n : ℕ) → range_with_len 0 (n + 1) ≡ range_with_len 0 n ++ n ∷ []
range_more n =
    let e : 0 + n ≡ n = omega arith in
    ap (λ (m : ℕ). range_with_len 0 m) (add-one n) ∙ range-suc 0 n ∙ ap (λ (k : ℕ). range_with_len 0 n ++ k ∷ []) e

-- one more element behind a front
pub row_more : {X : Type 0} (f : ℕ → X) (front old : List X) (x : ℕ) (value : X) → old ≡ front ++ map f (range_with_len 0 x) → value ≡ f x
    → old ++ value ∷ [] ≡ front ++ map f (range_with_len 0 (x + 1))
row_more {X = X} f front old x value was is =
    let x-place : 0 + x ≡ x = omega arith in
    ap (λ (xs : List X). xs ++ value ∷ []) was
    ∙ ap (λ (v : X). (front ++ map f (range_with_len 0 x)) ++ v ∷ []) is
    ∙ append_assoc front (map f (range_with_len 0 x)) (f x ∷ [])
    ∙ ap (λ (xs : List X). front ++ xs) (sym (map-range_with_len_more f 0 x x x-place))

-- one more row
pub rows_more : {X : Type 0} (f : ℕ → List X) (old row : List X) (y : ℕ) → old ≡ flat_map f (range_with_len 0 y) → row ≡ f y
    → old ++ row ≡ flat_map f (range_with_len 0 (y + 1))
rows_more {X = X} f old row y was is =
    ap (λ (xs : List X). xs ++ row) was
    ∙ ap (λ (xs : List X). flat_map f (range_with_len 0 y) ++ xs) is
    ∙ flat_map_more f [] (range_with_len 0 y) y
    ∙ ap (λ (ns : List ℕ). flat_map f ns) (sym (range_more y))

-- functions that agree make the same list
pub maps_same : {X : Type 0} (f g : ℕ → X) → ((k : ℕ) → f k ≡ g k) → (ns : List ℕ) → map f ns ≡ map g ns
maps_same f g same [] = refl
maps_same {X = X} f g same (n ∷ ns) =
    ap (λ (x : X). x ∷ map f ns) (same n) ∙ ap (λ (xs : List X). g n ∷ xs) (maps_same f g same ns)

-- one more summand
pub sums_more : (f : ℕ → ℕ) (n : ℕ) → sum_by f (range_with_len 0 (n + 1)) ≡ sum_by f (range_with_len 0 n) + f n
sums_more f n =
    let last : sum_by f (n ∷ []) ≡ f n = omega arith in
    ap (λ (ns : List ℕ). sum_by f ns) (range_more n)
    ∙ sum_by-append f (range_with_len 0 n) (n ∷ [])
    ∙ ap (λ (m : ℕ). sum_by f (range_with_len 0 n) + m) last
