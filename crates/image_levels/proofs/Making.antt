-- The levels of an image while those behind level 0 are made, one after the other.
use Rattle.std.proofs.Common.{◌≡◌, ◌≢◌, ◌<◌, ◌≤◌, ◌+◌, ◌*◌, ℕ, zero, suc, Bool, true, false, if◌then◌else◌, List, [], ◌∷◌, Option, None, Some, length, map, get_or, slice_index_or, slice_set, drop, inl, inr, refl, sym, ap, ◌∙◌, add-one, arith}
use Rattle.std.specs.List.{range_with_len, sum, sum_by}
use Rattle.std.proofs.lemmas.Bool.{cases_lt}
use Rattle.std.proofs.lemmas.Bool.Decides.{eqb_tells}
use Rattle.std.proofs.lemmas.List.{get_or-set_other, get_or-set_same, get_or_default, length-replicate, length-set, same_lists}
use Rattle.std.proofs.lemmas.List.Sums.{sum_by-cons}
use Rattle.std.proofs.lemmas.List.FromFn.{get_or-map-range_with_len, length-map-range_with_len}
use Rattle.gl_records.specs.Complete.{halved, last_of, level_at}
use Rattle.gl_records.specs.ImageBytes.{level_bytes}
use Rattle.gl_records.specs.declared.level.ImageSet.{ImageSet}
use Rattle.gl_records.specs.declared.level.Level.{Level}
use Rattle.image_levels.specs.Mipmaps.{AreFor, HasSource, IsFirst, blank_level, blank_levels, bytes_behind, bytes_of_level, bytes_remade, bytes_then, made_level, mipmap_level, remade_from, smaller_of}
use Rattle.image_levels.specs.SubImage.{is_among}
use Rattle.image_levels.proofs.Chains.{last-small, level-larger, mipmap_level-filled, mipmap_level-format, mipmap_level-h, mipmap_level-w, halved-more}
use Rattle.image_levels.proofs.Replaced.{among-above, among-below, among-in}

-- so many levels behind the first are made, and these are left to be made
pub record IsMaking (first : Level) (old levels : List (Option Level)) (n : ℕ) (rest : List Level) : Type 0 where
  pub is_first : IsFirst first
  pub at_first : get_or old 0 None ≡ Some first
  pub count : length levels ≡ 11
  pub made : (j : ℕ) → get_or levels j None ≡ made_level first n old j
  pub left : ℕ
  pub all : n + left ≡ last_of first
  pub blanks : rest ≡ map (λ k. blank_level first.format (halved first.w k) (halved first.h k)) (range_with_len (n + 1) left)

-- the level before the next one is there
source-of : (first : Level) (old : List (Option Level)) (n : ℕ) → get_or old 0 None ≡ Some first → made_level first n old n ≡ Some (mipmap_level first n)
source-of first old zero is = is
source-of first old (suc n) is =
    let among : is_among 1 (suc n) (suc n) ≡ true = among-in 1 (suc n) (suc n) (omega arith) (omega arith) in
    rw among refl

pub source_is : (first : Level) (old levels : List (Option Level)) (n : ℕ) (rest : List Level) → IsMaking first old levels n rest
    → get_or levels n None ≡ Some (mipmap_level first n)
source_is first old levels n rest making = making.made n ∙ source-of first old n making.at_first

-- one more level is made
made-same : (first : Level) (old : List (Option Level)) (n j : ℕ) → j ≢ n + 1 → made_level first n old j ≡ made_level first (n + 1) old j
made-same first old n j other =
    ap (λ (among : Bool). if among then Some (mipmap_level first j) else slice_index_or old j None) (elim (cases_lt j 1) [
      | inl none ↦ among-below 1 n j none ∙ sym (among-below 1 (n + 1) j none)
      | inr some ↦ elim (cases_lt j (n + 1)) [
        | inl before ↦ among-in 1 n j some (omega (arith, before)) ∙ sym (among-in 1 (n + 1) j some (omega (arith, before)))
        | inr from ↦ elim (eqb_tells j (n + 1)) [
          | inl is ↦ absurd (other is.1)
          | inr isnt ↦ let past : 1 + (n + 1) ≤ j = ne_past j (n + 1) from other in
              among-above 1 n j (omega (arith, past)) ∙ sym (among-above 1 (n + 1) j past)
        ]
      ]
    ])
  where
    ne_past : (a b : ℕ) → b ≤ a → a ≢ b → 1 + b ≤ a
    ne_past a b from other = elim (cases_lt b a) [
      | inl less ↦ omega (arith, less)
      | inr more ↦ absurd (other (omega (arith, from, more)))
    ]

made-here : (first : Level) (old : List (Option Level)) (n : ℕ) → Some (mipmap_level first (suc n)) ≡ made_level first (n + 1) old (n + 1)
made-here first old n =
    let among : is_among 1 (n + 1) (n + 1) ≡ true = among-in 1 (n + 1) (n + 1) (omega arith) (omega arith) in
    rw among (ap (λ (k : ℕ). Some (mipmap_level first k)) (sym (add-one n)))

pub making-more : (first : Level) (old levels : List (Option Level)) (n : ℕ) (blank : Level) (rest : List Level) → IsMaking first old levels n (blank ∷ rest)
    → IsMaking first old (slice_set levels (n + 1) (smaller_of (get_or levels n None))) (n + 1) rest
making-more first old levels n blank rest making = by_left making.left refl
  where
    by_left : (left : ℕ) → making.left ≡ left → IsMaking first old (slice_set levels (n + 1) (smaller_of (get_or levels n None))) (n + 1) rest
    by_left zero none =
        let empty : blank ∷ rest ≡ [] = making.blanks ∙ ap (λ (m : ℕ). map (λ k. blank_level first.format (halved first.w k) (halved first.h k)) (range_with_len (n + 1) m)) none in
        let sizes : length (blank ∷ rest) ≡ 0 = ap length empty in
        absurd (omega (arith, sizes))
    by_left (suc left) more =
        let small = last-small first making.is_first in
        let all = making.all in
        let inside : n + 1 < length levels = omega (arith, small, all, more, making.count) in
        let f = λ (k : ℕ). blank_level first.format (halved first.w k) (halved first.h k) in
        let both : blank ∷ rest ≡ f (n + 1) ∷ map f (range_with_len (n + 1 + 1) left) =
        making.blanks ∙ ap (λ (m : ℕ). map f (range_with_len (n + 1) m)) more in
        let source = source_is first old levels n (blank ∷ rest) making in
        record {
          is_first = making.is_first;
          at_first = making.at_first;
          count = length-set levels (n + 1) (smaller_of (get_or levels n None)) ∙ making.count;
          made = λ j. elim (eqb_tells j (n + 1)) [
            | inl is ↦
                ap (λ (k : ℕ). get_or (slice_set levels (n + 1) (smaller_of (get_or levels n None))) k None) is.1
                ∙ get_or-set_same levels (n + 1) (smaller_of (get_or levels n None)) None inside
                ∙ ap smaller_of source
                ∙ made-here first old n
                ∙ ap (λ (k : ℕ). made_level first (n + 1) old k) (sym is.1)
            | inr isnt ↦
                get_or-set_other levels (n + 1) j (smaller_of (get_or levels n None)) None isnt.1
                ∙ making.made j ∙ made-same first old n j isnt.1
          ];
          left = left;
          all = omega (arith, all, more);
          blanks = ap (drop 1) both;
        }

-- the next one has its sides
pub making-source : (first : Level) (old levels : List (Option Level)) (n : ℕ) (blank : Level) (rest : List Level) → IsMaking first old levels n (blank ∷ rest)
    → HasSource (get_or levels n None) blank
making-source first old levels n blank rest making = by_left making.left refl
  where
    by_left : (left : ℕ) → making.left ≡ left → HasSource (get_or levels n None) blank
    by_left zero none =
        let empty : blank ∷ rest ≡ [] = making.blanks ∙ ap (λ (m : ℕ). map (λ k. blank_level first.format (halved first.w k) (halved first.h k)) (range_with_len (n + 1) m)) none in
        let sizes : length (blank ∷ rest) ≡ 0 = ap length empty in
        absurd (omega (arith, sizes))
    by_left (suc left) more =
        let all = making.all in
        let is_first = making.is_first in
        let before : n < last_of first = omega (arith, all, more) in
        let f = λ (k : ℕ). blank_level first.format (halved first.w k) (halved first.h k) in
        let both : blank ∷ rest ≡ f (n + 1) ∷ map f (range_with_len (n + 1 + 1) left) =
        making.blanks ∙ ap (λ (m : ℕ). map f (range_with_len (n + 1) m)) more in
        let blank_is : blank ≡ f (n + 1) = ap (λ xs. get_or xs 0 (f (n + 1))) both in
        let w = mipmap_level-w first n is_first.w_least in
        let h = mipmap_level-h first n is_first.h_least in
        let next = add-one n in
        let w_next : halved first.w (n + 1) ≡ halved (mipmap_level first n).w 1 =
        ap (halved first.w) next ∙ sym (halved-more first.w n) ∙ ap (λ (side : ℕ). halved side 1) (sym w) in
        let h_next : halved first.h (n + 1) ≡ halved (mipmap_level first n).h 1 =
        ap (halved first.h) next ∙ sym (halved-more first.h n) ∙ ap (λ (side : ℕ). halved side 1) (sym h) in
        rw (source_is first old levels n (blank ∷ rest) making, blank_is) (record {
          filled = mipmap_level-filled first n is_first.filled;
          larger = rw (w, h) (level-larger first n is_first before);
          w = w_next;
          h = h_next;
          format = sym (mipmap_level-format first n);
          count = length-replicate (halved first.w (n + 1) * halved first.h (n + 1)) 0;
        })

-- there is room for it
pub making-room : (first : Level) (old levels : List (Option Level)) (n : ℕ) (blank : Level) (rest : List Level) → IsMaking first old levels n (blank ∷ rest) → n < 10
making-room first old levels n blank rest making = by_left making.left refl
  where
    by_left : (left : ℕ) → making.left ≡ left → n < 10
    by_left zero none =
        let empty : blank ∷ rest ≡ [] = making.blanks ∙ ap (λ (m : ℕ). map (λ k. blank_level first.format (halved first.w k) (halved first.h k)) (range_with_len (n + 1) m)) none in
        let sizes : length (blank ∷ rest) ≡ 0 = ap length empty in
        absurd (omega (arith, sizes))
    by_left (suc left) more =
        let all = making.all in
        let small = last-small first making.is_first in
        omega (arith, all, more, small)

-- none is made yet
making-start : (first : Level) (old : List (Option Level)) (blanks : List Level) → IsFirst first → get_or old 0 None ≡ Some first → length old ≡ 11
    → blanks ≡ blank_levels first.w first.h first.format → IsMaking first old old 0 blanks
unfolding blank_levels
making-start first old blanks is_first at_first count is = record {
  is_first = is_first;
  at_first = at_first;
  count = count;
  made = λ j.
      let none : is_among 1 0 j ≡ false = elim (cases_lt j 1) [ inl low ↦ among-below 1 0 j low | inr high ↦ among-above 1 0 j (omega (arith, high)) ] in
      rw none refl;
  left = last_of first;
  all = omega arith;
  blanks = is;
}

pub making-begin : (found : Option Level) (old : List (Option Level)) (blanks : List Level) → get_or old 0 None ≡ found → length old ≡ 11 → AreFor found blanks
    → (first : Level) × IsMaking first old old 0 blanks
making-begin None old blanks is count for = absurd for
making-begin (Some first) old blanks is count for = (first, making-start first old blanks for.0 is count for.1)

-- all are made
pub making-end : (first : Level) (old levels : List (Option Level)) (n : ℕ) (rest : List Level) → IsMaking first old levels n rest → length rest ≡ 0
    → levels ≡ remade_from (Some first) old
making-end first old levels n rest making none =
    let f = λ (k : ℕ). blank_level first.format (halved first.w k) (halved first.h k) in
    let size = ap length making.blanks ∙ length-map-range_with_len f (n + 1) making.left in
    let all = making.all in
    let last : n ≡ last_of first = omega (arith, size, none, all) in
    let g = λ (k : ℕ). made_level first (last_of first) old k in
    same_lists levels (map g (range_with_len 0 11)) (making.count ∙ sym (length-map-range_with_len g 0 11)) (λ k d within.
    let inside : k < 11 = omega (arith, within, making.count) in
    let place : 0 + k ≡ k = omega arith in
    get_or_default levels k d None within ∙ making.made k
    ∙ ap (λ (m : ℕ). made_level first m old k) last
    ∙ sym (get_or-map-range_with_len g 0 11 k k d inside place))

-- ---- the bytes that the levels count

pub sums-same : (levels : ℕ → Option Level) (bytes : ℕ → ℕ) (ks : List ℕ) → ((k : ℕ) → level_bytes (levels k) ≡ bytes k)
    → sum_by level_bytes (map levels ks) ≡ sum (map bytes ks)
sums-same levels bytes [] same = refl
sums-same levels bytes (k ∷ ks) same =
    let here = same k in
    let rest = sums-same levels bytes ks same in
    let left = sum_by-cons level_bytes (levels k) (map levels ks) in
    let right = sum_by-cons (λ (b : ℕ). b) (bytes k) (map bytes ks) in
    omega (arith, here, rest, left, right)

-- a level that was made has as many texels as its sides say
made-bytes : (first : Level) (old : List (Option Level)) → IsFirst first → (k : ℕ) → level_bytes (made_level first (last_of first) old k) ≡ bytes_then old first.w first.h k
made-bytes first old is k = by_among (is_among 1 (last_of first) k)
  where
    made : level_bytes (Some (mipmap_level first k)) ≡ bytes_of_level first.w first.h k
    made =
        let sides = ap (λ (a : ℕ). a * (mipmap_level first k).h) (mipmap_level-w first k is.w_least) ∙ ap (λ (b : ℕ). halved first.w k * b) (mipmap_level-h first k is.h_least) in
        ap (λ (n : ℕ). 4 * n) (mipmap_level-filled first k is.filled ∙ sides)

    by_among : (among : Bool) → level_bytes (if among then Some (mipmap_level first k) else slice_index_or old k None) ≡ (if among then bytes_of_level first.w first.h k else level_bytes (slice_index_or old k None))
    by_among true = made
    by_among false = refl

remade-bytes-first : (first : Level) (set : ImageSet) → IsFirst first → level_at set 0 ≡ Some first
    → sum_by level_bytes (remade_from (Some first) set.levels) ≡ 4 * (first.w * first.h) + bytes_behind set first.w first.h
unfolding bytes_behind
remade-bytes-first first set is at_first =
    let levels = λ (k : ℕ). made_level first (last_of first) set.levels k in
    let bottom : level_bytes (levels 0) ≡ 4 * (first.w * first.h) = ap level_bytes at_first ∙ ap (λ (n : ℕ). 4 * n) is.filled in
    let rest = sums-same levels (λ k. bytes_then set.levels first.w first.h k) (range_with_len 1 10) (made-bytes first set.levels is) in
    let all = sum_by-cons level_bytes (levels 0) (map levels (range_with_len 1 10)) in
    all ∙ omega (arith, bottom, rest)

pub remade-bytes : (found : Option Level) (set : ImageSet) (blanks : List Level) → level_at set 0 ≡ found → AreFor found blanks
    → sum_by level_bytes (remade_from found set.levels) ≡ bytes_remade found set
remade-bytes None set blanks at_first for = absurd for
remade-bytes (Some first) set blanks at_first for = remade-bytes-first first set for.0 at_first
