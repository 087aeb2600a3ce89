-- What holds of the buffer objects goes on to hold.
use Rattle.std.proofs.Common.{◌≡◌, ◌≢◌, ◌+◌, ◌<◌, ◌≤◌, ℕ, ℤ, Bool, true, false, cond, eqb, List, [], length, Option, Some, None, IfSome, is_some, refl, sym, ap, subst, ◌∙◌, arith}
use Rattle.std.specs.FinMap as map
use Rattle.std.specs.Option.{option_map, unwrap_or}
use Rattle.std.proofs.lemmas.Bool.{eqb-true, eq-eqb, false≢true}
use Rattle.gl_tokens.specs.declared.buffer_target.BufferTarget.{BufferTarget}
use Rattle.gl_tokens.specs.declared.buffer_target.BufferTarget.TheVariants.{Array, ElementArray}
use Rattle.object_names.specs.Names.{LiveNames, object_at, size_or_0}
use Rattle.object_names.proofs.Objects.{object-empty, object-insert, object-remove}
use Rattle.object_names.proofs.Totals.{total-empty, total-insert, total-remove}
use Rattle.object_names.proofs.Behind.{object-behind, total-behind}
use Rattle.buffer_objects.specs.Buffers.{BufferObjects, opening_buffers, key_at, with_key, live_bytes, most_bytes, object_size}
use Rattle.buffer_objects.specs.Commands.{given_names, behind_names, with_object, with_binding, with_bytes, without_name, unbound, unbound_key}
use Rattle.buffer_objects.specs.Kept.{IsKept, IsLive}
use Rattle.buffer_objects.specs.declared.buffer_key.BufferKey.{BufferKey}
use Rattle.buffer_objects.specs.declared.object.Object.{Object}

abbrev serial_at : LiveNames Object → ℕ → Option ℕ
serial_at names name = option_map (λ object. object.serial) (object_at names name)

-- an object that may be bound
abbrev pub MayBeBound : BufferObjects → Option BufferKey → Type 0
MayBeBound buffers bound = IfSome bound (λ key. IsLive buffers key × (key.name ≢ 0))

pick : {A : Type 0} (b : Bool) (x y z : A) → (b ≡ true → x ≡ z) → (b ≡ false → y ≡ z) → cond b x y ≡ z
pick true x y z yes_case no_case = yes_case refl
pick false x y z yes_case no_case = no_case refl

if_cond : {A : Type 0} (P : A → Type 0) (b : Bool) (o p : Option A) → IfSome o P → IfSome p P → IfSome (cond b o p) P
if_cond P true o p first second = first
if_cond P false o p first second = second

map_cond : (b : Bool) (o p : Option Object) → option_map (λ object. object.serial) (cond b o p) ≡ cond b (option_map (λ object. object.serial) o) (option_map (λ object. object.serial) p)
map_cond true o p = refl
map_cond false o p = refl

none_is_no_serial : (o : Option Object) (serial : ℕ) → o ≡ None → option_map (λ object. object.serial) o ≡ Some serial → ⊥
none_is_no_serial o serial none some = false≢true (ap is_some (sym (ap (option_map (λ object. object.serial)) none) ∙ some))

pub same_serial : (a b : ℕ) → Some a ≡ Some b → a ≡ b
same_serial a b same = ap (λ o. unwrap_or o 0) same

pub taken_of : (o : Option Object) (serial made : ℕ) → IfSome o (λ object. object.serial < made) → option_map (λ object. object.serial) o ≡ Some serial → serial < made
taken_of None serial made below is = absurd (none_is_no_serial None serial refl is)
taken_of (Some object) serial made below is = omega (arith, below, same_serial object.serial serial is)

later : (o : Option Object) (made : ℕ) → IfSome o (λ object. object.serial < made) → IfSome o (λ object. object.serial < made + 1)
later None made below = below
later (Some object) made below = omega (arith, below)

pub serial-insert : (names : LiveNames Object) (name : ℕ) (object : Option Object) (q : ℕ) → serial_at (map.insert names name object) q ≡ cond (eqb q name) (option_map (λ object. object.serial) object) (serial_at names q)
serial-insert names name object q = ap (option_map (λ object. object.serial)) (object-insert names name object q) ∙ map_cond (eqb q name) object (object_at names q)

moved : (old new : BufferObjects) (bound : Option BufferKey) → ((key : BufferKey) → IsLive old key → IsLive new key) → MayBeBound old bound → MayBeBound new bound
moved old new None stays is = is
moved old new (Some key) stays is = (stays key is.0, is.1)

-- nothing is live at first
pub kept_opening : IsKept opening_buffers
kept_opening = record {
  bound = λ target. elim target as (λ t. IfSome (key_at opening_buffers.bindings t) (λ key. IsLive opening_buffers key × (key.name ≢ 0))) [ Array ↦ tt | ElementArray ↦ tt ];
  taken = λ name. subst (λ (o : Option Object). IfSome o (λ object. object.serial < 0)) (sym (object-empty name)) tt;
  few = omega (arith, total-empty object_size);
}

-- another object is bound
pub kept_binding : (b : BufferObjects) (target : BufferTarget) (key : Option BufferKey) → IsKept b → MayBeBound b key → IsKept (with_binding b target key)
kept_binding b Array key kept may = record {
  bound = λ target. elim target as (λ t. MayBeBound b (key_at (with_key b.bindings Array key) t)) [ Array ↦ may | ElementArray ↦ kept.bound ElementArray ];
  taken = kept.taken;
  few = kept.few;
}
kept_binding b ElementArray key kept may = record {
  bound = λ target. elim target as (λ t. MayBeBound b (key_at (with_key b.bindings ElementArray key) t)) [ Array ↦ kept.bound Array | ElementArray ↦ may ];
  taken = kept.taken;
  few = kept.few;
}

-- an object of no bytes is made
live_object : (b : BufferObjects) (name : ℕ) → object_at b.names name ≡ None → (key : BufferKey) → IsLive b key → IsLive (with_object b name) key
live_object b name none key live =
    serial-insert b.names name (Some (record { serial = b.made; bytes = [] })) key.name
    ∙ pick (eqb key.name name) (Some b.made) (serial_at b.names key.name) (Some key.serial)
    (λ same. absurd (none_is_no_serial (object_at b.names key.name) key.serial (ap (object_at b.names) (eqb-true key.name name same) ∙ none) live))
    (λ other. live)

pub live_bytes-object : (b : BufferObjects) (name : ℕ) → object_at b.names name ≡ None → live_bytes (with_object b name) ≡ live_bytes b
live_bytes-object b name none =
    omega (arith, total-insert object_size b.names name (Some (record { serial = b.made; bytes = [] })), ap (size_or_0 object_size) none)

pub kept_object : (b : BufferObjects) (name : ℕ) → object_at b.names name ≡ None → IsKept b → IsKept (with_object b name)
kept_object b name none kept = record {
  bound = λ target. moved b (with_object b name) (key_at b.bindings target) (live_object b name none) (kept.bound target);
  taken = λ q. subst (λ (o : Option Object). IfSome o (λ object. object.serial < b.made + 1)) (sym (object-insert b.names name (Some (record { serial = b.made; bytes = [] })) q))
      (if_cond (λ object. object.serial < b.made + 1) (eqb q name) (Some (record { serial = b.made; bytes = [] })) (object_at b.names q) (omega arith) (later (object_at b.names q) b.made (kept.taken q)));
  few = subst (λ (n : ℕ). n ≤ most_bytes) (sym (live_bytes-object b name none)) kept.few;
}

-- the new object may be bound
pub bound_object : (b : BufferObjects) (name : ℕ) → (name ≡ 0 → ⊥) → MayBeBound (with_object b name) (Some (record { name = name; serial = b.made }))
bound_object b name some = (
  serial-insert b.names name (Some (record { serial = b.made; bytes = [] })) name
      ∙ pick (eqb name name) (Some b.made) (serial_at b.names name) (Some b.made) (λ same. refl) (λ other. absurd (false≢true (sym other ∙ eq-eqb name name refl))),
  some,
)

-- names are given
abbrev pub with_given : BufferObjects → ℤ → BufferObjects
with_given b count = behind_names b (given_names b count)

pub live_bytes-given : (b : BufferObjects) (count : ℤ) → live_bytes (with_given b count) ≡ live_bytes b
live_bytes-given b count = total-behind object_size b.names count

pub kept_given : (b : BufferObjects) (count : ℤ) → IsKept b → IsKept (with_given b count)
kept_given b count kept =
    let same = λ (q : ℕ). object-behind b.names count q in
    record {
      bound = λ target. moved b (with_given b count) (key_at b.bindings target) (λ key live. ap (option_map (λ object. object.serial)) (same key.name) ∙ live) (kept.bound target);
      taken = λ q. subst (λ (o : Option Object). IfSome o (λ object. object.serial < b.made)) (sym (same q)) (kept.taken q);
      few = subst (λ (n : ℕ). n ≤ most_bytes) (sym (live_bytes-given b count)) kept.few;
    }

-- a live object gets other bytes
live_bytes_moved : (b : BufferObjects) (key : BufferKey) (bytes : List ℕ) → IsLive b key → (other : BufferKey) → IsLive b other → IsLive (with_bytes b key bytes) other
live_bytes_moved b key bytes live other is =
    serial-insert b.names key.name (Some (record { serial = key.serial; bytes = bytes })) other.name
    ∙ pick (eqb other.name key.name) (Some key.serial) (serial_at b.names other.name) (Some other.serial)
    (λ same. sym live ∙ ap (serial_at b.names) (sym (eqb-true other.name key.name same)) ∙ is)
    (λ apart. is)

pub kept_bytes : (b : BufferObjects) (key : BufferKey) (bytes : List ℕ) → IsLive b key → live_bytes (with_bytes b key bytes) ≤ most_bytes → IsKept b → IsKept (with_bytes b key bytes)
kept_bytes b key bytes live few kept = record {
  bound = λ target. moved b (with_bytes b key bytes) (key_at b.bindings target) (live_bytes_moved b key bytes live) (kept.bound target);
  taken = λ q. subst (λ (o : Option Object). IfSome o (λ object. object.serial < b.made)) (sym (object-insert b.names key.name (Some (record { serial = key.serial; bytes = bytes })) q))
      (if_cond (λ object. object.serial < b.made) (eqb q key.name) (Some (record { serial = key.serial; bytes = bytes })) (object_at b.names q)
      (taken_of (object_at b.names key.name) key.serial b.made (kept.taken key.name) live) (kept.taken q));
  few = few;
}

pub live_bytes-bytes : (b : BufferObjects) (key : BufferKey) (bytes : List ℕ) → live_bytes (with_bytes b key bytes) + size_or_0 object_size (object_at b.names key.name) ≡ live_bytes b + length bytes
live_bytes-bytes b key bytes = total-insert object_size b.names key.name (Some (record { serial = key.serial; bytes = bytes }))

-- a name is gone
unbound_stays : (b : BufferObjects) (name : ℕ) (bound : Option BufferKey) → MayBeBound b bound → MayBeBound (without_name b name) (unbound_key bound name)
unbound_stays b name None may = tt
unbound_stays b name (Some key) may = by_name (eqb key.name name) refl where
  by_name : (same : Bool) → eqb key.name name ≡ same → MayBeBound (without_name b name) (cond same None (Some key))
  by_name true is = tt
  by_name false is = (
    ap (option_map (λ object. object.serial)) (object-remove b.names name key.name ∙ ap (λ (t : Bool). cond t None (object_at b.names key.name)) is) ∙ may.0,
    may.1,
  )

pub live_bytes-without : (b : BufferObjects) (name : ℕ) → live_bytes (without_name b name) + size_or_0 object_size (object_at b.names name) ≡ live_bytes b
live_bytes-without b name = total-remove object_size b.names name

pub kept_without : (b : BufferObjects) (name : ℕ) → IsKept b → IsKept (without_name b name)
kept_without b name kept = record {
  bound = λ target. elim target as (λ t. MayBeBound (without_name b name) (key_at (unbound b.bindings name) t)) [
    | Array ↦ unbound_stays b name b.bindings.array (kept.bound Array)
    | ElementArray ↦ unbound_stays b name b.bindings.element_array (kept.bound ElementArray)
  ];
  taken = λ q. subst (λ (o : Option Object). IfSome o (λ object. object.serial < b.made)) (sym (object-remove b.names name q)) (if_cond (λ object. object.serial < b.made) (eqb q name) None (object_at b.names q) tt (kept.taken q));
  few = omega (arith, live_bytes-without b name, kept.few);
}
