-- The sizes of all objects together, as names come and go.
use Rattle.std.proofs.Common.{◌≡◌, ◌+◌, ℕ, Bool, true, false, cond, ◌&&◌, List, [], ◌∷◌, length, Option, Some, None, Ordering, refl, sym, ap, ◌∙◌, arith}
use Rattle.std.specs.Prelude.{T}
use Rattle.std.specs.declared.cmp.Ordering.TheVariants.{Less, Equal, Greater}
use Rattle.std.specs.List.{sum_by}
use Rattle.std.specs.Option.{option_flatten}
use Rattle.std.specs.Ordering.{nat_cmp, eq_by_cmp, is_eq, is_lt}
use Rattle.std.specs.Cmp.{nat_cmp_total, tied_itself}
use Rattle.std.specs.FinMap.{empty, len-empty, len-entries, find, put, is_sorted, get, insert, remove, entries, entries_sorted, entries-insert, get-entries, get-insert, get-remove, same_map, nat_cmp-IsAntisymmetric}
use Rattle.std.specs.FinMap.Entries.{below_all, by_order}
use Rattle.std.proofs.lemmas.List.Sums.{sum_by-cons}
use Rattle.object_names.specs.Names.{LiveNames, object_at, size_or_0, total}

first : (a b : Bool) → T (a && b) → T a
first true b both = tt
first false b both = both

second : (a b : Bool) → T (a && b) → T b
second true b both = both
second false b both = absurd both

less : (o : Ordering) → T (is_lt o) → o ≡ Less
less Less p = refl
less Equal p = absurd p
less Greater p = absurd p

-- what the weight of a value is, 0 where there is none
abbrev weight_or_0 : {X : Type 0} → (X → ℕ) → Option X → ℕ
weight_or_0 w None = 0
weight_or_0 w (Some x) = w x

module _ {X : Type 0} where
  below_none : (k x : ℕ) (es : List (ℕ × X)) → nat_cmp k x ≡ Less → T (below_all nat_cmp x es) → find nat_cmp k es ≡ None
  below_none k x [] p h = refl
  below_none k x (e ∷ es) p h =
      ap (λ (r : Ordering). cond (is_eq r) (Some e.1) (find nat_cmp k es)) (nat_cmp_total.trans k x e.0 p (less _ (first _ _ h)))
      ∙ below_none k x es p (second _ _ h)

  -- the weights of all values
  abbrev weights : (X → ℕ) → List (ℕ × X) → ℕ
  weights w es = sum_by (λ e. w e.1) es

  weights-put : (w : X → ℕ) (k : ℕ) (v : X) (es : List (ℕ × X)) → T (is_sorted nat_cmp es) → weights w (put nat_cmp k v es) + weight_or_0 w (find nat_cmp k es) ≡ weights w es + w v
  weights-put w k v [] sorted = omega arith
  weights-put w k v (e ∷ es) sorted =
      let rest = weights-put w k v es (second _ _ sorted) in
      let here = sum_by-cons (λ (p : ℕ × X). w p.1) e es in
      elim (nat_cmp k e.0) as (λ r. nat_cmp k e.0 ≡ r → weights w (by_order r ((k, v) ∷ e ∷ es) ((e.0, v) ∷ es) (e ∷ put nat_cmp k v es)) + weight_or_0 w (cond (is_eq r) (Some e.1) (find nat_cmp k es)) ≡ weights w (e ∷ es) + w v) [
        | Less ↦ λ p.
            let none = ap (weight_or_0 w) (below_none k e.0 es p (first _ _ sorted)) in
            omega (arith, none, sum_by-cons (λ (q : ℕ × X). w q.1) (k, v) (e ∷ es))
        | Equal ↦ λ p. omega (arith, here, sum_by-cons (λ (q : ℕ × X). w q.1) (e.0, v) es)
        | Greater ↦ λ p. omega (arith, here, rest, sum_by-cons (λ (q : ℕ × X). w q.1) e (put nat_cmp k v es))
      ] refl

no_weights : {X : Type 0} (w : X → ℕ) (es : List (ℕ × X)) → length es ≡ 0 → weights w es ≡ 0
no_weights w [] none = refl
no_weights w (e ∷ es) none = absurd (omega (arith, none))

module _ {V : Type 0} (size : V → ℕ) where
  pub total-empty : total size empty ≡ 0
  total-empty = no_weights (size_or_0 size) (entries {R = nat_cmp} empty) (sym (len-entries empty) ∙ len-empty nat_cmp (Option V))

  flat : (o : Option (Option V)) → weight_or_0 (size_or_0 size) o ≡ size_or_0 size (option_flatten o)
  flat None = refl
  flat (Some o) = refl

  -- a name comes to stand for another object, or for none
  pub total-insert : (names : LiveNames V) (name : ℕ) (object : Option V) → total size (insert names name object) + size_or_0 size (object_at names name) ≡ total size names + size_or_0 size object
  total-insert names name object =
      let at = flat (get names name) in
      let found = ap (weight_or_0 (size_or_0 size)) (get-entries names name) in
      let put_in = ap (λ (es : List (ℕ × Option V)). weights (size_or_0 size) es) (entries-insert nat_cmp_total names name object) in
      omega (arith, at, found, put_in, weights-put (size_or_0 size) name object (entries names) (entries_sorted names))

  apart : (o : Option (Option V)) (names : LiveNames V) (name : ℕ) → get names name ≡ o → total size (remove names name) + size_or_0 size (option_flatten o) ≡ total size names
  apart None names name none =
      let same : remove names name ≡ names = same_map nat_cmp_total nat_cmp-IsAntisymmetric (remove names name) names (λ q.
      get-remove nat_cmp_total names name q ∙ unchanged q (nat_cmp q name) refl) in
      omega (arith, ap (total size) same) where
        unchanged : (q : ℕ) (r : Ordering) → nat_cmp q name ≡ r → cond (is_eq r) None (get names q) ≡ get names q
        unchanged q Less p = refl
        unchanged q Equal p = sym none ∙ ap (get names) (sym (nat_cmp-IsAntisymmetric q name p))
        unchanged q Greater p = refl
  apart (Some o) names name some =
      let back : insert (remove names name) name o ≡ names = same_map nat_cmp_total nat_cmp-IsAntisymmetric (insert (remove names name) name o) names (λ q.
      get-insert nat_cmp_total (remove names name) name o q
      ∙ ap (λ (p : Option (Option V)). cond (eq_by_cmp nat_cmp q name) (Some o) p) (get-remove nat_cmp_total names name q)
      ∙ restored q (nat_cmp q name) refl) in
      let gone : object_at (remove names name) name ≡ None = ap option_flatten (get-remove nat_cmp_total names name name ∙ ap (λ (r : Ordering). cond (is_eq r) None (get names name)) (tied_itself nat_cmp_total name)) in
      omega (arith, total-insert (remove names name) name o, ap (total size) back, ap (size_or_0 size) gone) where
        restored : (q : ℕ) (r : Ordering) → nat_cmp q name ≡ r → cond (is_eq r) (Some o) (cond (is_eq r) None (get names q)) ≡ get names q
        restored q Less p = refl
        restored q Equal p = sym some ∙ ap (get names) (sym (nat_cmp-IsAntisymmetric q name p))
        restored q Greater p = refl

  -- a name that isn't live any more
  pub total-remove : (names : LiveNames V) (name : ℕ) → total size (remove names name) + size_or_0 size (object_at names name) ≡ total size names
  total-remove names name = apart (get names name) names name refl
