-- What always holds of the texture objects goes on to hold as names are given, bound and told parameters.
use Rattle.std.proofs.Common.{◌≡◌, ◌+◌, ◌≤◌, ℕ, zero, suc, ℤ, Bool, true, false, cond, eqb, [], ◌∷◌, length, Option, Some, None, IfSome, is_some, refl, sym, ap, subst, ◌∙◌, arith}
use Rattle.std.specs.Option.{option_map}
use Rattle.std.proofs.lemmas.Bool.{eqb-true, false≢true}
use Rattle.std.specs.Prelude.{slice_index_or}
use Rattle.texture_ghosts.specs.Versions.{current_set}
use Rattle.gl_records.specs.ImageBytes.{image_bytes, empty_image}
use Rattle.gl_records.specs.declared.level.ImageSet.{ImageSet}
use Rattle.image_commands.specs.Written.{IsGood}
use Rattle.image_commands.proofs.Good.{empty_is_good}
use Rattle.object_names.specs.Giving as giving
use Rattle.std.specs.FinMap as map
use Rattle.object_names.specs.Names.{object_at, size_or_0, total}
use Rattle.object_names.specs.Seen.{seen_as}
use Rattle.object_names.proofs.Objects.{object-empty}
use Rattle.object_names.proofs.Seen.{seen-empty}
use Rattle.object_names.proofs.Totals.{total-empty}
use Rattle.object_names.proofs.Behind.{total-behind}
use Rattle.texture_store.specs.Kept.{Held, HasGood, IsKept, IsHeld, IsVersion, held_of, held_at, number_of}
use Rattle.texture_store.specs.Stored.{StoredTextures, objects_of, texture_of, stored_at, with_stored, told, with_changed, current_sets}
use Rattle.texture_store.specs.Textures.{Texture, texture_at, texture_or_opening, with_texture, texture_bytes, live_bytes, most_bytes}
use Rattle.texture_store.specs.declared.object.Object.{Object}
use Rattle.texture_store.specs.declared.parameters.Parameters.{Parameters}
use Rattle.texture_store.proofs.ByValue.{texture_of_stored, objects-with_stored, objects-behind, bytes-with_texture}
use Rattle.texture_store.proofs.Holding.{IsChange, held_changed, held_alike, not_none}
use Rattle.texture_store.proofs.Storing.{stored-with_stored, held-with_stored, stored-behind, changed_is}

-- names are given
abbrev pub with_given : StoredTextures → ℤ → StoredTextures
with_given s count = record s { names = giving.behind_names s.names (giving.given_names s.names count) }

pub bytes-given : (s : StoredTextures) (count : ℤ) → live_bytes (objects_of (with_given s count)) ≡ live_bytes (objects_of s)
bytes-given s count =
    ap live_bytes (objects-behind s count) ∙ ap (λ (n : ℕ). texture_bytes (objects_of s).unnamed + n) (total-behind texture_bytes (objects_of s).names count)

pub kept_given : (s : StoredTextures) (count : ℤ) → IsKept s → IsKept (with_given s count)
kept_given s count kept =
    let same = λ (q : ℕ). stored-behind s count q in
    let held = λ (q : ℕ). ap (option_map held_of) (same q) in
    record {
      held = held_alike (held_at s) (held_at (with_given s count)) (current_sets s.versions) (current_sets s.versions) kept.held held (λ v. refl);
      good = λ q. subst HasGood (sym (held q)) (kept.good q);
      bound = λ unit. ap is_some (same _) ∙ kept.bound unit;
      units = kept.units;
      few = subst (λ (n : ℕ). n ≤ most_bytes) (sym (bytes-given s count)) kept.few;
    }

-- an object of a name with the same image
same_held : (s : StoredTextures) (name : ℕ) (object : Object) (q : ℕ) (same : Bool) → eqb q name ≡ same → held_at s name ≡ Some (held_of object) → cond same (Some (held_of object)) (held_at s q) ≡ held_at s q
same_held s name object q true same is = sym is ∙ ap (held_at s) (sym (eqb-true q name same))
same_held s name object q false apart is = refl

size_of_held : (o : Option Object) (object : Object) → option_map held_of o ≡ Some (held_of object) → size_or_0 texture_bytes (option_map texture_of o) ≡ texture_bytes (texture_of object)
size_of_held None object is = absurd (not_none (held_of object) is)
size_of_held (Some old) object is = ap (λ (h : Option Held). size_or_0 (λ held. image_bytes held.image) h) is

pub if_bound : (b : Bool) (x y : Option Object) → is_some x ≡ true → is_some y ≡ true → is_some (cond b x y) ≡ true
if_bound true x y first second = first
if_bound false x y first second = second

pub if_good : (b : Bool) (x y : Option Held) → HasGood x → HasGood y → HasGood (cond b x y)
if_good true x y first second = first
if_good false x y first second = second

pub bytes-same : (s : StoredTextures) (name : ℕ) (object : Object) → held_at s name ≡ Some (held_of object) → live_bytes (objects_of (with_stored s name object)) ≡ live_bytes (objects_of s)
bytes-same s name object is =
    let after = bytes-with_texture (objects_of s) name (texture_of object) in
    let size = ap (size_or_0 texture_bytes) (texture_of_stored s name) ∙ size_of_held (stored_at s name) object is in
    let sum = ap live_bytes (objects-with_stored s name object) in
    omega (arith, after, size, sum)

pub kept_same : (s : StoredTextures) (name : ℕ) (object : Object) → held_at s name ≡ Some (held_of object) → IsKept s → IsKept (with_stored s name object)
kept_same s name object is kept =
    let new = with_stored s name object in
    let held = λ (q : ℕ). held-with_stored s name object q ∙ same_held s name object q (eqb q name) refl is in
    record {
      held = held_alike (held_at s) (held_at new) (current_sets s.versions) (current_sets s.versions) kept.held held (λ v. refl);
      good = λ q. subst HasGood (sym (held q)) (kept.good q);
      bound = λ unit. ap is_some (stored-with_stored s name object _) ∙ if_bound (eqb _ name) (Some object) (stored_at s _) refl (kept.bound unit);
      units = kept.units;
      few = subst (λ (n : ℕ). n ≤ most_bytes) (sym (bytes-same s name object is)) kept.few;
    }

-- a name that stood for nothing stands for an object that has no image yet
pub empty_bytes : image_bytes empty_image ≡ 0
unfolding image_bytes
empty_bytes = refl

none_held : (o : Option Object) → o ≡ None → option_map held_of o ≡ None
none_held o is = ap (option_map held_of) is

no_size : (o : Option Object) → o ≡ None → size_or_0 texture_bytes (option_map texture_of o) ≡ 0
no_size o is = ap (λ (x : Option Object). size_or_0 texture_bytes (option_map texture_of x)) is

-- an object without a version, whose image is empty
pub record IsBlank (object : Object) : Type 0 where
  pub version : object.version ≡ None
  pub image : object.image.value ≡ empty_image

blank_number : (object : Object) → IsBlank object → (held_of object).version ≡ None
blank_number object blank = ap (option_map (λ v. v.0)) blank.version

blank_held : (sets : ℕ → Option ImageSet) (object : Object) → IsBlank object → IsHeld sets (held_of object)
blank_held sets object blank = subst (λ (n : Option ℕ). IsVersion sets n object.image.value) (sym (blank_number object blank)) blank.image

pub bytes-blank : (s : StoredTextures) (name : ℕ) (object : Object) → stored_at s name ≡ None → IsBlank object → live_bytes (objects_of (with_stored s name object)) ≡ live_bytes (objects_of s)
bytes-blank s name object none blank =
    let after = bytes-with_texture (objects_of s) name (texture_of object) in
    let size = ap (size_or_0 texture_bytes) (texture_of_stored s name) ∙ no_size (stored_at s name) none in
    let sum = ap live_bytes (objects-with_stored s name object) in
    let nothing = ap image_bytes blank.image ∙ empty_bytes in
    omega (arith, after, size, sum, nothing)

pub kept_blank : (s : StoredTextures) (name : ℕ) (object : Object) → stored_at s name ≡ None → IsBlank object → IsKept s → IsKept (with_stored s name object)
kept_blank s name object none blank kept =
    let new = with_stored s name object in
    let sets = current_sets s.versions in
    let was_none : number_of (held_at s name) ≡ None = ap number_of (none_held (stored_at s name) none) in
    let number = blank_number object blank in
    let change : IsChange (held_at s) name (Some (held_of object)) sets sets = record {
      stored = blank_held sets object blank;
      free = λ other v apart mine its. not_none v (sym number ∙ its);
      left = λ v mine its. absurd (not_none v (sym was_none ∙ mine));
      others = λ v mine its. refl;
    } in
    record {
      held = held_changed (held_at s) (held_at new) name (Some (held_of object)) sets sets kept.held change (held-with_stored s name object);
      good = λ q. subst HasGood (sym (held-with_stored s name object q)) (if_good (eqb q name) (Some (held_of object)) (held_at s q) (subst IsGood (sym blank.image) empty_is_good) (kept.good q));
      bound = λ unit. ap is_some (stored-with_stored s name object _) ∙ if_bound (eqb _ name) (Some object) (stored_at s _) refl (kept.bound unit);
      units = kept.units;
      few = subst (λ (n : ℕ). n ≤ most_bytes) (sym (bytes-blank s name object none blank)) kept.few;
    }

-- before anything is said
pub bytes-new : (s : StoredTextures) → s.names ≡ map.empty → IsBlank s.unnamed → live_bytes (objects_of s) ≡ 0
bytes-new s none blank =
    let unnamed = ap image_bytes blank.image ∙ empty_bytes in
    let named = ap (λ names. total texture_bytes (seen_as texture_of names)) none ∙ ap (total texture_bytes) (seen-empty texture_of) ∙ total-empty texture_bytes in
    omega (arith, unnamed, named)

new_by : (s : StoredTextures) (name : ℕ) (zero : Bool) → s.names ≡ map.empty → eqb name 0 ≡ zero → cond zero (Some s.unnamed) (object_at s.names name) ≡ cond zero (Some s.unnamed) None
new_by s name true none is = refl
new_by s name false none is = ap (λ names. object_at names name) none ∙ object-empty name

new_stored : (sets : ℕ → Option ImageSet) (object : Object) (zero : Bool) → IsBlank object → IfSome (option_map held_of (cond zero (Some object) None)) (IsHeld sets)
new_stored sets object true blank = blank_held sets object blank
new_stored sets object false blank = tt

new_number : (object : Object) (zero : Bool) → IsBlank object → number_of (option_map held_of (cond zero (Some object) None)) ≡ None
new_number object true blank = blank_number object blank
new_number object false blank = refl

new_good : (object : Object) (zero : Bool) → IsBlank object → HasGood (option_map held_of (cond zero (Some object) None))
new_good object true blank = subst IsGood (sym blank.image) empty_is_good
new_good object false blank = tt

zeros : (unit : ℕ) → slice_index_or {A = ℕ} (0 ∷ 0 ∷ []) unit 0 ≡ 0
zeros zero = refl
zeros (suc zero) = refl
zeros (suc (suc unit)) = refl

pub kept_new : (s : StoredTextures) → s.names ≡ map.empty → IsBlank s.unnamed → s.bound ≡ 0 ∷ 0 ∷ [] → s.versions.slots ≡ [] → IsKept s
kept_new s none blank bound slots =
    let sets = current_sets s.versions in
    let held : (name : ℕ) → held_at s name ≡ option_map held_of (cond (eqb name 0) (Some s.unnamed) None) =
    λ name. ap (option_map held_of) (new_by s name (eqb name 0) none refl) in
    let number : (name : ℕ) → number_of (held_at s name) ≡ None = λ name. ap number_of (held name) ∙ new_number s.unnamed (eqb name 0) blank in
    record {
      held = record {
        stored = λ name. subst (λ h. IfSome h (IsHeld sets)) (sym (held name)) (new_stored sets s.unnamed (eqb name 0) blank);
        apart = λ name other v mine its. absurd (not_none v (sym (number name) ∙ mine));
        owned = λ v lives. absurd (false≢true (sym (ap (λ all. is_some (current_set (slice_index_or all v None))) slots) ∙ lives));
      };
      good = λ name. subst HasGood (sym (held name)) (new_good s.unnamed (eqb name 0) blank);
      bound = λ unit. zero_bound unit (ap (λ names. slice_index_or names unit 0) bound ∙ zeros unit);
      units = ap length bound;
      few = subst (λ (n : ℕ). n ≤ most_bytes) (sym (bytes-new s none blank)) (omega arith);
    } where
      zero_bound : (unit : ℕ) → slice_index_or s.bound unit 0 ≡ 0 → is_some (stored_at s (slice_index_or s.bound unit 0)) ≡ true
      zero_bound unit is = ap (λ name. is_some (stored_at s name)) is

-- an object is told other parameters
pub bytes-told : (s : StoredTextures) (name : ℕ) (parameters : Parameters) (o : Option Object) → stored_at s name ≡ o → is_some o ≡ true →
    live_bytes (objects_of (with_changed (told parameters) s name)) ≡ live_bytes (objects_of s)
bytes-told s name parameters None is some = absurd (false≢true some)
bytes-told s name parameters (Some object) is some =
    ap (λ new. live_bytes (objects_of new)) (changed_is (told parameters) s name object is) ∙ bytes-same s name (told parameters object) (ap (option_map held_of) is)

pub kept_told : (s : StoredTextures) (name : ℕ) (parameters : Parameters) (o : Option Object) → stored_at s name ≡ o → is_some o ≡ true → IsKept s → IsKept (with_changed (told parameters) s name)
kept_told s name parameters None is some kept = absurd (false≢true some)
kept_told s name parameters (Some object) is some kept =
    subst IsKept (sym (changed_is (told parameters) s name object is)) (kept_same s name (told parameters object) (ap (option_map held_of) is) kept)

pub objects-told : (s : StoredTextures) (name : ℕ) (parameters : Parameters) (o : Option Object) → stored_at s name ≡ o → is_some o ≡ true →
    objects_of (with_changed (told parameters) s name) ≡ with_texture (objects_of s) name (record (texture_or_opening (texture_at (objects_of s) name)) { parameters = parameters })
objects-told s name parameters None is some = absurd (false≢true some)
objects-told s name parameters (Some object) is some =
    ap objects_of (changed_is (told parameters) s name object is) ∙ objects-with_stored s name (told parameters object)
    ∙ ap (λ (t : Option Texture). with_texture (objects_of s) name (record (texture_or_opening t) { parameters = parameters }))
    (ap (option_map texture_of) (sym is) ∙ sym (texture_of_stored s name))
