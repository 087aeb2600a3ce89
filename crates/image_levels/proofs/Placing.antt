-- The levels of an image while those of a list are put into it, one after the other.
use Rattle.std.proofs.Common.{◌≡◌, ◌<◌, ◌≤◌, ◌+◌, ℕ, List, ◌∷◌, Option, None, Some, length, map, get_or, slice_set, drop, inl, inr, refl, sym, ap, ◌∙◌, arith}
use Rattle.std.specs.Prelude.{slice_get}
use Rattle.std.specs.List.{range_with_len}
use Rattle.std.proofs.lemmas.Bool.{cases_lt}
use Rattle.std.proofs.lemmas.Bool.Decides.{eqb_tells}
use Rattle.std.proofs.lemmas.List.{drop-drop, get_or-drop, get_or-set_other, get_or-set_same, get_or_default, length-drop, length-set, same_lists}
use Rattle.std.proofs.lemmas.List.FromFn.{get_or-map-range_with_len, length-map-range_with_len}
use Rattle.std.proofs.lemmas.Option.{slice_get-get_or, slice_get_past}
use Rattle.gl_records.specs.declared.level.Level.{Level}
use Rattle.image_levels.specs.Levels.{given_level, given_levels, level_or}

-- the first n levels of the list are in their places, and these are left
pub record IsPlacing (all : List Level) (old levels : List (Option Level)) (n : ℕ) (rest : List Level) : Type 0 where
  pub fits : length all ≤ 11
  pub count : length levels ≡ 11
  pub placed : (j : ℕ) → j < n → get_or levels j None ≡ given_level all old j
  pub others : (j : ℕ) → n ≤ j → get_or levels j None ≡ get_or old j None
  pub left : rest ≡ drop n all

-- there is a place for the next one
pub placing-inside : (all : List Level) (old levels : List (Option Level)) (n : ℕ) (level : Level) (rest : List Level) → IsPlacing all old levels n (level ∷ rest)
    → n < length all
placing-inside all old levels n level rest placing =
    let size = ap length placing.left ∙ length-drop n all in
    let some : length (level ∷ rest) ≡ 1 + length rest = omega arith in
    omega (arith, size, some)

pub placing-more : (all : List Level) (old levels : List (Option Level)) (n : ℕ) (level : Level) (rest : List Level) → IsPlacing all old levels n (level ∷ rest)
    → IsPlacing all old (slice_set levels n (Some level)) (n + 1) rest
placing-more all old levels n level rest placing =
    let inside = placing-inside all old levels n level rest placing in
    let place : n + 0 ≡ n = omega arith in
    let element : get_or all n level ≡ level =
    ap (λ (k : ℕ). get_or all k level) (sym place) ∙ sym (get_or-drop n all 0 level) ∙ sym (ap (λ (xs : List Level). get_or xs 0 level) placing.left) in
    let found : slice_get all n ≡ Some level = slice_get-get_or all n level inside ∙ ap Some element in
    let room : n < length levels = omega (arith, inside, placing.fits, placing.count) in
    record {
      fits = placing.fits;
      count = length-set levels n (Some level) ∙ placing.count;
      placed = λ j within. elim (eqb_tells j n) [
        | inl is ↦
            ap (λ (k : ℕ). get_or (slice_set levels n (Some level)) k None) is.1
            ∙ get_or-set_same levels n (Some level) None room
            ∙ sym (ap (λ (found : Option Level). level_or found (get_or old n None)) found)
            ∙ ap (λ (k : ℕ). given_level all old k) (sym is.1)
        | inr isnt ↦ get_or-set_other levels n j (Some level) None isnt.1 ∙ elim (cases_lt j n) [
          | inl before ↦ placing.placed j before
          | inr from ↦ absurd (isnt.1 (omega (arith, from, within)))
        ]
      ];
      others = λ j from. get_or-set_other levels n j (Some level) None (λ e. omega (arith, e, from)) ∙ placing.others j (omega (arith, from));
      left = ap (drop 1) placing.left ∙ drop-drop 1 n all;
    }

-- all are in their places
pub placing-end : (all : List Level) (old levels : List (Option Level)) (n : ℕ) (rest : List Level) → IsPlacing all old levels n rest → length rest ≡ 0
    → levels ≡ given_levels all old
placing-end all old levels n rest placing none =
    let size = ap length placing.left ∙ length-drop n all in
    let past : length all ≤ n = omega (arith, size, none) in
    let g = λ (k : ℕ). given_level all old k in
    let each : (k : ℕ) → get_or levels k None ≡ g k = λ k. elim (cases_lt k n) [
      | inl before ↦ placing.placed k before
      | inr from ↦
          placing.others k from
          ∙ sym (ap (λ (found : Option Level). level_or found (get_or old k None)) (slice_get_past all k (omega (arith, from, past))))
    ] in
    same_lists levels (map g (range_with_len 0 11)) (placing.count ∙ sym (length-map-range_with_len g 0 11)) (λ k d within.
    let inside : k < 11 = omega (arith, within, placing.count) in
    let at : 0 + k ≡ k = omega arith in
    get_or_default levels k d None within ∙ each k ∙ sym (get_or-map-range_with_len g 0 11 k k d inside at))

pub placing-start : (all : List Level) (old : List (Option Level)) → length all ≤ 11 → length old ≡ 11 → IsPlacing all old old 0 all
placing-start all old fits count = record {
  fits = fits;
  count = count;
  placed = λ j below. absurd (omega (arith, below));
  others = λ j from. refl;
  left = refl;
}
