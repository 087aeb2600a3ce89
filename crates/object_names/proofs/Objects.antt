-- The object that a name stands for, as names come and go.
use Rattle.std.proofs.Common.{◌≡◌, ℕ, Bool, true, false, cond, eqb, Option, Some, None, Ordering, is_some, refl, sym, ap, ◌∙◌}
use Rattle.std.specs.Option.{option_flatten}
use Rattle.std.specs.Ordering.{nat_cmp, eq_by_cmp, is_eq}
use Rattle.std.specs.Cmp.{nat_cmp_total, tied_itself, unsigned_tied}
use Rattle.std.specs.FinMap.{FinMap, empty, get, insert, remove, contains_key, get-empty, get-insert, get-remove, same_map, nat_cmp-IsAntisymmetric}
use Rattle.object_names.specs.Names.{LiveNames, object_at}

flat_cond : {V : Type 0} (b : Bool) (o p : Option (Option V)) → option_flatten (cond b o p) ≡ cond b (option_flatten o) (option_flatten p)
flat_cond true o p = refl
flat_cond false o p = refl

twice : {A : Type 0} (b : Bool) (x y z : A) → cond b x (cond b y z) ≡ cond b x z
twice true x y z = refl
twice false x y z = refl

module _ {V : Type 0} where
  pub object-empty : (q : ℕ) → object_at {V = V} empty q ≡ None
  object-empty q = ap option_flatten (get-empty nat_cmp q)

  -- a name comes to stand for another object
  pub object-insert : (names : LiveNames V) (name : ℕ) (object : Option V) (q : ℕ) → object_at (insert names name object) q ≡ cond (eqb q name) object (object_at names q)
  object-insert names name object q =
      ap option_flatten (get-insert nat_cmp_total names name object q)
      ∙ flat_cond (eq_by_cmp nat_cmp q name) (Some object) (get names q)
      ∙ ap (λ (b : Bool). cond b object (object_at names q)) (unsigned_tied q name)

  -- a name isn't live any more
  pub object-remove : (names : LiveNames V) (name q : ℕ) → object_at (remove names name) q ≡ cond (eqb q name) None (object_at names q)
  object-remove names name q =
      ap option_flatten (get-remove nat_cmp_total names name q)
      ∙ flat_cond (eq_by_cmp nat_cmp q name) None (get names q)
      ∙ ap (λ (b : Bool). cond b None (object_at names q)) (unsigned_tied q name)

  -- of two objects that a name comes to stand for the second counts
  pub insert_again : (names : LiveNames V) (name : ℕ) (before object : Option V) → insert (insert names name before) name object ≡ insert names name object
  insert_again names name before object = same_map nat_cmp_total nat_cmp-IsAntisymmetric _ _ (λ q.
      get-insert nat_cmp_total (insert names name before) name object q
      ∙ ap (λ (o : Option (Option V)). cond (eq_by_cmp nat_cmp q name) (Some object) o) (get-insert nat_cmp_total names name before q)
      ∙ twice (eq_by_cmp nat_cmp q name) (Some object) (Some before) (get names q)
      ∙ sym (get-insert nat_cmp_total names name object q))

-- a name that was put in is live
pub live-insert : {X : Type 0} (names : FinMap {K = ℕ} nat_cmp X) (name : ℕ) (value : X) → contains_key (insert names name value) name ≡ true
live-insert names name value =
    ap is_some (get-insert nat_cmp_total names name value name ∙ ap (λ (r : Ordering). cond (is_eq r) (Some value) (get names name)) (tied_itself nat_cmp_total name))
