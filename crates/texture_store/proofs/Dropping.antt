-- What always holds of the texture objects goes on to hold once a name is gone, and so do the versions.
use Rattle.std.proofs.Common.{◌≡◌, ◌≢◌, ◌+◌, ℕ, Bool, true, false, cond, eqb, List, inl, inr, Option, Some, None, IfSome, is_some, refl, sym, ap, subst, ◌∙◌, arith}
use Rattle.std.specs.Prelude.{map as list_map, slice_index_or}
use Rattle.std.specs.Option.{option_map, option_and_then}
use Rattle.std.proofs.Math.ListN.{get_or-map}
use Rattle.std.proofs.lemmas.Bool.{eqb-true, ne_eqb}
use Rattle.std.proofs.lemmas.List.{length-map}
use Rattle.gl_records.specs.ImageBytes.{image_bytes}
use Rattle.gl_records.specs.declared.version_id.VersionId.{VersionId}
use Rattle.object_names.specs.Names.{LiveNames, object_at, size_or_0}
use Rattle.object_names.proofs.Objects.{object-remove}
use Rattle.object_names.proofs.Seen.{seen-remove}
use Rattle.texture_ghosts.specs.Versions.{Version, Versions, at, current_set, left_over, IsPinned}
use Rattle.texture_store.specs.Answers.{KeepPinned}
use Rattle.texture_store.specs.Commands.{unbound, without_live}
use Rattle.texture_store.specs.Drops.{IsDropped, without_stored}
use Rattle.texture_store.specs.Kept.{HasGood, IsKept, held_of, held_at, number_of}
use Rattle.texture_store.specs.Stored.{StoredTextures, AreOf, current_sets, image_of_name, objects_of, stored_at, texture_of, version_at, with_versions}
use Rattle.texture_store.specs.Textures.{Texture, live_bytes, texture_at, texture_bytes, texture_or_opening}
use Rattle.texture_store.specs.declared.object.Object.{Object}
use Rattle.texture_store.proofs.ByValue.{bytes-without_live}
use Rattle.texture_store.proofs.Holding.{IsChange, held_changed, held_alike, not_none, same_number}
use Rattle.texture_store.proofs.Keeping.{empty_bytes, if_good}
use Rattle.texture_store.proofs.Writing.{is_other, left_is_none}

-- the objects by value
pub objects-without : (s : StoredTextures) (name : ℕ) → objects_of (without_stored s name) ≡ without_live (objects_of s) name
objects-without s name = ap (λ (names : LiveNames Texture). record (without_live (objects_of s) name) { names = names }) (seen-remove texture_of s.names name)

-- the object of each name
stored_by : (s : StoredTextures) (name q : ℕ) (zero same : Bool) → name ≢ 0 → eqb q 0 ≡ zero → eqb q name ≡ same →
    cond zero (Some s.unnamed) (cond same None (object_at s.names q)) ≡ cond same None (cond zero (Some s.unnamed) (object_at s.names q))
stored_by s name q true true isnt first second = absurd (isnt (sym (eqb-true q name second) ∙ eqb-true q 0 first))
stored_by s name q true false isnt first second = refl
stored_by s name q false same isnt first second = refl

pub stored-without : (s : StoredTextures) (name q : ℕ) → name ≢ 0 → stored_at (without_stored s name) q ≡ cond (eqb q name) None (stored_at s q)
stored-without s name q isnt = ap (cond (eqb q 0) (Some s.unnamed)) (object-remove s.names name q) ∙ stored_by s name q (eqb q 0) (eqb q name) isnt refl refl

map_none : (b : Bool) (o : Option Object) → option_map held_of (cond b None o) ≡ cond b None (option_map held_of o)
map_none true o = refl
map_none false o = refl

held-without : (s : StoredTextures) (name q : ℕ) → name ≢ 0 → held_at (without_stored s name) q ≡ cond (eqb q name) None (held_at s q)
held-without s name q isnt = ap (option_map held_of) (stored-without s name q isnt) ∙ map_none (eqb q name) (stored_at s q)

-- the bytes of all images
size_is : (o : Option Texture) → size_or_0 texture_bytes o ≡ image_bytes (texture_or_opening o).image
size_is None = sym empty_bytes
size_is (Some texture) = refl

pub bytes-without : (s : StoredTextures) (name : ℕ) → name ≢ 0 → live_bytes (objects_of (without_stored s name)) + image_bytes (image_of_name s name) ≡ live_bytes (objects_of s)
bytes-without s name isnt =
    let t = objects_of s in
    let sum = ap live_bytes (objects-without s name) in
    let named = ap (λ (b : Bool). size_or_0 texture_bytes (cond b (Some t.unnamed) (object_at t.names name))) (ne_eqb name 0 isnt) in
    omega (arith, sum, bytes-without_live t name, size_is (texture_at t name), named)

-- what is bound
unbound_zero : (b : Bool) → ◌≡◌ {A = ℕ} (cond b 0 0) 0
unbound_zero true = refl
unbound_zero false = refl

unbound_at : (name : ℕ) (bound : List ℕ) (unit : ℕ) → slice_index_or (list_map (unbound name) bound) unit 0 ≡ unbound name (slice_index_or bound unit 0)
unbound_at name bound unit =
    ap (λ (d : ℕ). slice_index_or (list_map (unbound name) bound) unit d) (sym (unbound_zero (eqb 0 name))) ∙ get_or-map (unbound name) bound unit 0

stays_bound : (s : StoredTextures) (name q : ℕ) (same : Bool) → name ≢ 0 → eqb q name ≡ same → is_some (stored_at s q) ≡ true → is_some (stored_at (without_stored s name) (cond same 0 q)) ≡ true
stays_bound s name q true isnt is some = refl
stays_bound s name q false isnt is some = ap is_some (stored-without s name q isnt) ∙ ap (λ (b : Bool). is_some (cond b None (stored_at s q))) is ∙ some

bound_without : (s : StoredTextures) (name unit : ℕ) → name ≢ 0 → is_some (stored_at s (slice_index_or s.bound unit 0)) ≡ true →
    is_some (stored_at (without_stored s name) (slice_index_or (list_map (unbound name) s.bound) unit 0)) ≡ true
bound_without s name unit isnt some =
    ap (λ (q : ℕ). is_some (stored_at (without_stored s name) q)) (unbound_at name s.bound unit)
    ∙ stays_bound s name (slice_index_or s.bound unit 0) (eqb (slice_index_or s.bound unit 0) name) isnt refl some

-- the number of a name's version
number_is : (o : Option Object) → number_of (option_map held_of o) ≡ option_map (λ v. v.0) (option_and_then (λ object. object.version) o)
number_is None = refl
number_is (Some object) = refl

-- a version that its object has no longer is no object's
left_by : (old new : Versions) (x : Option VersionId) (v : ℕ) → IfSome x (λ y. at new y.0 ≡ left_over (at old y.0)) → option_map (λ y. y.0) x ≡ Some v → is_some (current_sets new v) ≡ false
left_by old new None v left its = absurd (not_none v its)
left_by old new (Some x) v left its =
    ap (λ (n : ℕ). is_some (current_sets new n)) (sym (same_number x.0 v its)) ∙ ap (λ (o : Option Version). is_some (current_set o)) left ∙ left_is_none (at old x.0)

pub kept_dropped : (s : StoredTextures) (old new : Versions) (name : ℕ) → name ≢ 0 → AreOf s old → IsKept s → IsDropped old new (version_at s name) → IsKept (with_versions (without_stored s name) new)
kept_dropped s old new name isnt of kept dropped =
    let now = without_stored s name in
    let was = held_alike (held_at s) (held_at s) (current_sets s.versions) (current_sets old) kept.held (λ q. refl) of in
    let number = number_is (stored_at s name) in
    let change : IsChange (held_at s) name None (current_sets old) (current_sets new) = record {
      stored = tt;
      free = λ other v apart mine its. not_none v its;
      left = λ v its apart. left_by old new (version_at s name) v dropped.left (sym number ∙ its);
      others = λ v its apart. ap current_set (dropped.others v (is_other (version_at s name) v (λ same. its (number ∙ same))));
    } in
    record {
      held = held_changed (held_at s) (held_at now) name None (current_sets old) (current_sets new) was change (λ q. held-without s name q isnt);
      good = λ q. subst HasGood (sym (held-without s name q isnt)) (if_good (eqb q name) None (held_at s q) tt (kept.good q));
      bound = λ unit. bound_without s name unit isnt (kept.bound unit);
      units = length-map s.bound (unbound name) ∙ kept.units;
      few = omega (arith, bytes-without s name isnt, kept.few);
    }

-- versions that passes name through two changes
left_pinned : (o : Option Version) → IsPinned o → IsPinned (left_over o)
left_pinned None pinned = absurd pinned
left_pinned (Some version) pinned = subst (λ (b : Bool). IsPinned (cond b (Some (record version { current = false })) None)) (sym pinned) pinned

left_twice : (o : Option Version) → IsPinned o → left_over (left_over o) ≡ left_over o
left_twice None pinned = absurd pinned
left_twice (Some version) pinned =
    let left : Version = record version { current = false } in
    let once : left_over (Some version) ≡ Some left = ap (λ (b : Bool). cond b (Some left) None) pinned in
    ap left_over once ∙ ap (λ (b : Bool). cond b (Some left) None) pinned ∙ sym once

pub pinned_then : (first second third : Versions) → KeepPinned first second → KeepPinned second third → KeepPinned first third
pinned_then first second third before after v pinned = elim (before v pinned) [
  | inl same ↦ elim (after v (subst IsPinned (sym same) pinned)) [
    | inl again ↦ inl (again ∙ same)
    | inr left ↦ inr (left ∙ ap left_over same)
  ]
  | inr left ↦ elim (after v (subst IsPinned (sym left) (left_pinned (at first v) pinned))) [
    | inl again ↦ inr (again ∙ left)
    | inr twice ↦ inr (twice ∙ ap left_over left ∙ left_twice (at first v) pinned)
  ]
]
