-- Objects by their names, as one of them changes.
use Rattle.std.proofs.Common.{◌≡◌, ◌≢◌, ℕ, ℤ, Bool, true, false, cond, eqb, Option, Some, None, is_some, refl, sym, ap, ◌∙◌}
use Rattle.std.specs.FinMap as map
use Rattle.std.specs.Option.{option_map, unwrap_or}
use Rattle.std.proofs.lemmas.Bool.{eqb-true, eqb-false, ne_eqb, false≢true}
use Rattle.object_names.specs.Giving as giving
use Rattle.object_names.specs.Names.{object_at}
use Rattle.object_names.proofs.Behind.{object-behind}
use Rattle.object_names.proofs.Objects.{object-insert}
use Rattle.texture_store.specs.Kept.{held_of, held_at}
use Rattle.texture_store.specs.Stored.{StoredTextures, stored_at, with_stored, changed_names, with_changed}
use Rattle.texture_store.specs.declared.object.Object.{Object}

both_zero : (s : StoredTextures) (object : Object) (q name : ℕ) (zero same : Bool) → name ≡ 0 → eqb q 0 ≡ zero → eqb q name ≡ same →
    cond zero (Some object) (object_at s.names q) ≡ cond same (Some object) (cond zero (Some s.unnamed) (object_at s.names q))
both_zero s object q name true true is first second = refl
both_zero s object q name false false is first second = refl
both_zero s object q name true false is first second = absurd (eqb-false q name second (eqb-true q 0 first ∙ sym is))
both_zero s object q name false true is first second = absurd (eqb-false q 0 first (eqb-true q name second ∙ is))

above_zero : (s : StoredTextures) (object : Object) (q name : ℕ) (zero same : Bool) → name ≢ 0 → eqb q 0 ≡ zero → eqb q name ≡ same →
    cond zero (Some s.unnamed) (cond same (Some object) (object_at s.names q)) ≡ cond same (Some object) (cond zero (Some s.unnamed) (object_at s.names q))
above_zero s object q name true true isnt first second = absurd (isnt (sym (eqb-true q name second) ∙ eqb-true q 0 first))
above_zero s object q name true false isnt first second = refl
above_zero s object q name false same isnt first second = refl

put_by : (s : StoredTextures) (name : ℕ) (object : Object) (q : ℕ) (zero : Bool) → eqb name 0 ≡ zero →
    stored_at (record s { names = cond zero s.names (map.insert s.names name (Some object)); unnamed = cond zero object s.unnamed }) q ≡ cond (eqb q name) (Some object) (stored_at s q)
put_by s name object q true is = both_zero s object q name (eqb q 0) (eqb q name) (eqb-true name 0 is) refl refl
put_by s name object q false isnt =
    ap (cond (eqb q 0) (Some s.unnamed)) (object-insert s.names name (Some object) q)
    ∙ above_zero s object q name (eqb q 0) (eqb q name) (eqb-false name 0 isnt) refl refl

pub stored-with_stored : (s : StoredTextures) (name : ℕ) (object : Object) (q : ℕ) → stored_at (with_stored s name object) q ≡ cond (eqb q name) (Some object) (stored_at s q)
stored-with_stored s name object q = put_by s name object q (eqb name 0) refl

map_cond : {A B : Type 0} (f : A → B) (b : Bool) (x y : Option A) → option_map f (cond b x y) ≡ cond b (option_map f x) (option_map f y)
map_cond f true x y = refl
map_cond f false x y = refl

pub held-with_stored : (s : StoredTextures) (name : ℕ) (object : Object) (q : ℕ) → held_at (with_stored s name object) q ≡ cond (eqb q name) (Some (held_of object)) (held_at s q)
held-with_stored s name object q = ap (option_map held_of) (stored-with_stored s name object q) ∙ map_cond held_of (eqb q name) (Some object) (stored_at s q)

-- names that are given
pub stored-behind : (s : StoredTextures) (count : ℤ) (q : ℕ) → stored_at (record s { names = giving.behind_names s.names (giving.given_names s.names count) }) q ≡ stored_at s q
stored-behind s count q = ap (cond (eqb q 0) (Some s.unnamed)) (object-behind s.names count q)

-- a name that stands for nothing isn't 0
not_some : (object : Object) → Some object ≢ None
not_some object same = false≢true (ap is_some (sym same))

above : (s : StoredTextures) (name : ℕ) (object : Object) (zero : Bool) → cond zero (Some s.unnamed) (object_at s.names name) ≡ None →
    record s { names = cond zero s.names (map.insert s.names name (Some object)); unnamed = cond zero object s.unnamed } ≡ record s { names = map.insert s.names name (Some object) }
above s name object true none = absurd (not_some s.unnamed none)
above s name object false none = refl

pub put_above : (s : StoredTextures) (name : ℕ) (object : Object) → stored_at s name ≡ None → with_stored s name object ≡ record s { names = map.insert s.names name (Some object) }
put_above s name object none = above s name object (eqb name 0) none

-- an object that is changed
change_by : (change : Object → Object) (s : StoredTextures) (name : ℕ) (object : Object) (zero : Bool) → cond zero (Some s.unnamed) (object_at s.names name) ≡ Some object →
    record s { names = cond zero s.names (changed_names change s.names name (object_at s.names name)); unnamed = cond zero (change s.unnamed) s.unnamed }
    ≡ record s { names = cond zero s.names (map.insert s.names name (Some (change object))); unnamed = cond zero (change object) s.unnamed }
change_by change s name object true is = ap (λ (o : Option Object). record s { unnamed = change (unwrap_or o s.unnamed) }) is
change_by change s name object false is = ap (λ (o : Option Object). record s { names = changed_names change s.names name o }) is

pub changed_is : (change : Object → Object) (s : StoredTextures) (name : ℕ) (object : Object) → stored_at s name ≡ Some object → with_changed change s name ≡ with_stored s name (change object)
changed_is change s name object is = change_by change s name object (eqb name 0) is

pub changed_above : (change : Object → Object) (s : StoredTextures) (name : ℕ) → name ≢ 0 → with_changed change s name ≡ record s { names = changed_names change s.names name (object_at s.names name) }
changed_above change s name isnt = ap (λ zero. record s { names = cond zero s.names (changed_names change s.names name (object_at s.names name)); unnamed = cond zero (change s.unnamed) s.unnamed }) (ne_eqb name 0 isnt)
