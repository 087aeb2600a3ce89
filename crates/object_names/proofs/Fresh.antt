-- Names that are given stand for no object, so objects and totals stay as they are.
use Rattle.std.proofs.Common.{◌≡◌, ◌+◌, ℕ, zero, suc, Bool, true, false, cond, not, eqb, List, [], ◌∷◌, take, Option, Some, None, is_some, refl, sym, ap, ◌∙◌, arith}
use Rattle.std.specs.List.{AllByRecursion, filter, range_with_len}
use Rattle.std.specs.Option.{option_flatten}
use Rattle.std.specs.FinMap.{get, insert, len}
use Rattle.std.proofs.lemmas.Bool.{false≢true, eqb-true}
use Rattle.object_names.specs.Names.{LiveNames, object_at, is_free, free_names, with_names, total, size_or_0}
use Rattle.object_names.proofs.Objects.{object-insert}
use Rattle.object_names.proofs.Totals.{total-insert}

module _ {V : Type 0} where
  -- none of these names stands for an object
  abbrev pub AreFresh : LiveNames V → List ℕ → Type 0
  AreFresh names given = AllByRecursion (λ name. object_at names name ≡ None) given

  -- nor does one that isn't live
  of_none : (o : Option (Option V)) → not (is_some o) ≡ true → option_flatten o ≡ None
  of_none None free = refl
  of_none (Some o) free = absurd (false≢true free)

  free_is_fresh : (names : LiveNames V) (name : ℕ) → is_free names name ≡ true → object_at names name ≡ None
  free_is_fresh names name free = of_none (get names name) free

  kept_fresh : (names : LiveNames V) (x : ℕ) (rest : List ℕ) (b : Bool) → is_free names x ≡ b → AreFresh names rest → AreFresh names (cond b (x ∷ rest) rest)
  kept_fresh names x rest true free fresh = (free_is_fresh names x free, fresh)
  kept_fresh names x rest false free fresh = fresh

  passing_fresh : (names : LiveNames V) (all : List ℕ) → AreFresh names (filter (is_free names) all)
  passing_fresh names [] = tt
  passing_fresh names (x ∷ all) = kept_fresh names x (filter (is_free names) all) (is_free names x) refl (passing_fresh names all)

  front_fresh : (names : LiveNames V) (count : ℕ) (given : List ℕ) → AreFresh names given → AreFresh names (take count given)
  front_fresh names zero given fresh = tt
  front_fresh names (suc count) [] fresh = tt
  front_fresh names (suc count) (x ∷ given) fresh = (fresh.0, front_fresh names count given fresh.1)

  pub given_fresh : (names : LiveNames V) (count : ℕ) → AreFresh names (free_names names count)
  given_fresh names count = front_fresh names count (filter (is_free names) (range_with_len 1 (count + len names))) (passing_fresh names (range_with_len 1 (count + len names)))

  same_cond : (q x : ℕ) (b : Bool) → eqb q x ≡ b → (names : LiveNames V) → object_at names x ≡ None → cond b None (object_at names q) ≡ object_at names q
  same_cond q x true same names none = sym none ∙ ap (object_at names) (sym (eqb-true q x same))
  same_cond q x false same names none = refl

  object-one : (names : LiveNames V) (x q : ℕ) → object_at names x ≡ None → object_at (insert names x None) q ≡ object_at names q
  object-one names x q none = object-insert names x None q ∙ same_cond q x (eqb q x) refl names none

  still_fresh : (names : LiveNames V) (x : ℕ) (given : List ℕ) → object_at names x ≡ None → AreFresh names given → AreFresh (insert names x None) given
  still_fresh names x [] none fresh = tt
  still_fresh names x (y ∷ given) none fresh = (object-one names x y none ∙ fresh.0, still_fresh names x given none fresh.1)

  -- each name stands for what it stood for
  pub object-with_names : (names : LiveNames V) (given : List ℕ) (q : ℕ) → AreFresh names given → object_at (with_names names given) q ≡ object_at names q
  object-with_names names [] q fresh = refl
  object-with_names names (x ∷ given) q fresh =
      object-with_names (insert names x None) given q (still_fresh names x given fresh.0 fresh.1) ∙ object-one names x q fresh.0

  -- the total stays
  pub total-with_names : (size : V → ℕ) (names : LiveNames V) (given : List ℕ) → AreFresh names given → total size (with_names names given) ≡ total size names
  total-with_names size names [] fresh = refl
  total-with_names size names (x ∷ given) fresh =
      let one = total-insert size names x None in
      let none = ap (size_or_0 size) fresh.0 in
      total-with_names size (insert names x None) given (still_fresh names x given fresh.0 fresh.1) ∙ omega (arith, one, none)
