-- A key names one object for good.
use Rattle.std.proofs.Common.{◌≡◌, ℕ, ℤ, Bool, true, false, cond, eqb, ◌&&◌, ◌||◌, List, [], ◌∷◌, Option, Some, None, Result, Ok, is_some, refl, sym, ap, ◌∙◌, nat_eq, arith}
use Rattle.std.specs.List.{list_any}
use Rattle.std.specs.Option.{option_map}
use Rattle.std.proofs.lemmas.Bool.{eqb-true, false≢true}
use Rattle.gl_tokens.specs.BufferTarget as target
use Rattle.gl_tokens.specs.Commands.{done, known, unless, ◌>>=◌}
use Rattle.gl_tokens.specs.declared.buffer_target.BufferTarget.{BufferTarget}
use Rattle.gl_tokens.specs.declared.gl_error.GlError.{GlError}
use Rattle.object_names.specs.Names.{object_at}
use Rattle.object_names.proofs.Behind.{object-behind}
use Rattle.object_names.proofs.Objects.{object-insert, object-remove}
use Rattle.buffer_objects.specs.Buffers.{BufferObjects, bytes_in, bytes_of}
use Rattle.buffer_objects.specs.Commands.{given_names, behind_names, bind, named, with_binding, with_object, with_bytes, without_name, without_names}
use Rattle.buffer_objects.specs.Kept.{IsLive, KeepsBytes, NoneComesBack, is_same}
use Rattle.buffer_objects.specs.declared.buffer_key.BufferKey.{BufferKey}
use Rattle.buffer_objects.specs.declared.object.Object.{Object}
use Rattle.buffer_objects.proofs.Keeping.{serial-insert, same_serial}

-- states that answer alike by names
abbrev Alike : BufferObjects → BufferObjects → Type 0
Alike old new = (q : ℕ) → object_at new.names q ≡ object_at old.names q

alike_keeps : (old new : BufferObjects) → Alike old new → KeepsBytes old new
alike_keeps old new same key = ap (λ (o : Option Object). bytes_in o key.serial) (same key.name)

alike_live : (old new : BufferObjects) → Alike old new → NoneComesBack old new
alike_live old new same key given live = ap (option_map (λ object. object.serial)) (sym (same key.name)) ∙ live

-- GenBuffers
pub names_both : (b : BufferObjects) (count : ℤ) → KeepsBytes b (behind_names b (given_names b count)) × NoneComesBack b (behind_names b (given_names b count))
names_both b count =
    let new = behind_names b (given_names b count) in
    let alike : Alike b new = λ q. object-behind b.names count q in
    (alike_keeps b new alike, alike_live b new alike)

pick : {A : Type 0} (b : Bool) (x y z : A) → (b ≡ true → x ≡ z) → (b ≡ false → y ≡ z) → cond b x y ≡ z
pick true x y z first second = first refl
pick false x y z first second = second refl

-- an object of no bytes is made
object_keeps : (b : BufferObjects) (name : ℕ) → object_at b.names name ≡ None → KeepsBytes b (with_object b name)
object_keeps b name none key =
    ap (λ (o : Option Object). bytes_in o key.serial) (object-insert b.names name (Some (record { serial = b.made; bytes = [] })) key.name)
    ∙ by_name (eqb key.name name) refl where
      by_name : (same : Bool) → eqb key.name name ≡ same → bytes_in (cond same (Some (record { serial = b.made; bytes = [] })) (object_at b.names key.name)) key.serial ≡ bytes_of b key
      by_name true same = pick (eqb b.made key.serial) [] [] [] (λ _. refl) (λ _. refl) ∙ sym (ap (λ (o : Option Object). bytes_in o key.serial) (ap (object_at b.names) (eqb-true key.name name same) ∙ none))
      by_name false same = refl

object_live : (b : BufferObjects) (name : ℕ) → NoneComesBack b (with_object b name)
object_live b name key given live = by_name (eqb key.name name) refl (sym (serial-insert b.names name (Some (record { serial = b.made; bytes = [] })) key.name) ∙ live) where
  by_name : (same : Bool) → eqb key.name name ≡ same → cond same (Some b.made) (option_map (λ object. object.serial) (object_at b.names key.name)) ≡ Some key.serial → IsLive b key
  by_name true same is = absurd (omega (arith, given, same_serial b.made key.serial is))
  by_name false same is = is

-- BindBuffer
abbrev Both : BufferObjects → BufferObjects → Type 0
Both old new = KeepsBytes old new × NoneComesBack old new

unless_both : (b : BufferObjects) (test : Bool) (error : GlError) (after : Result BufferObjects GlError) → Both b (done b after).0 → Both b (done b (unless test error after)).0
unless_both b true error after both = (λ key. refl, λ key given live. live)
unless_both b false error after both = both

named_both : (b : BufferObjects) (target : BufferTarget) (name : ℕ) (object : Option Object) → object_at b.names name ≡ object → Both b (done b (named b target name object)).0
named_both b target name (Some object) is = (λ key. refl, λ key given live. live)
named_both b target name None is =
    unless_both b _ _ (Ok (with_binding (with_object b name) target (Some (record { name = name; serial = b.made })))) (object_keeps b name is, object_live b name)

target_both : (b : BufferObjects) (name : ℕ) (zero : Bool) (target : Option BufferTarget)
    → Both b (done b (known target >>= (λ target. cond zero (Ok (with_binding b target None)) (named b target name (object_at b.names name))))).0
target_both b name zero None = (λ key. refl, λ key given live. live)
target_both b name true (Some target) = (λ key. refl, λ key given live. live)
target_both b name false (Some target) = named_both b target name (object_at b.names name) refl

pub bind_both : (b : BufferObjects) (code name : ℕ) → KeepsBytes b (bind b code name).0 × NoneComesBack b (bind b code name).0
bind_both b code name = target_both b name (nat_eq name 0) (target.from_code_of code)

-- other bytes of a live object
other_serial : (o : Option Object) (live serial : ℕ) → option_map (λ object. object.serial) o ≡ Some live → eqb live serial ≡ false → bytes_in o serial ≡ []
other_serial None live serial is apart = refl
other_serial (Some object) live serial is apart =
    ap (λ (b : Bool). cond b object.bytes []) (ap (λ (n : ℕ). eqb n serial) (same_serial object.serial live is) ∙ apart)

pub bytes_keep : (b : BufferObjects) (bound : BufferKey) (bytes : List ℕ) → IsLive b bound → (key : BufferKey) → bytes_of (with_bytes b bound bytes) key ≡ cond (is_same bound key) bytes (bytes_of b key)
bytes_keep b bound bytes live key =
    ap (λ (o : Option Object). bytes_in o key.serial) (object-insert b.names bound.name (Some (record { serial = bound.serial; bytes = bytes })) key.name)
    ∙ by_name (eqb key.name bound.name) (eqb bound.serial key.serial) refl refl where
      by_name : (same : Bool) (as_given : Bool) → eqb key.name bound.name ≡ same → eqb bound.serial key.serial ≡ as_given
          → bytes_in (cond same (Some (record { serial = bound.serial; bytes = bytes })) (object_at b.names key.name)) key.serial ≡ cond (same && as_given) bytes (bytes_of b key)
      by_name true true same serial = ap (λ (t : Bool). cond t bytes []) serial
      by_name true false same serial =
          ap (λ (t : Bool). cond t bytes []) serial
          ∙ sym (other_serial (object_at b.names key.name) bound.serial key.serial (ap (λ (n : ℕ). option_map (λ object. object.serial) (object_at b.names n)) (eqb-true key.name bound.name same) ∙ live) serial)
      by_name false as_given same serial = refl

pub bytes_live : (b : BufferObjects) (bound : BufferKey) (bytes : List ℕ) → IsLive b bound → NoneComesBack b (with_bytes b bound bytes)
bytes_live b bound bytes live key given is = by_name (eqb key.name bound.name) refl (sym (serial-insert b.names bound.name (Some (record { serial = bound.serial; bytes = bytes })) key.name) ∙ is) where
  by_name : (same : Bool) → eqb key.name bound.name ≡ same → cond same (Some bound.serial) (option_map (λ object. object.serial) (object_at b.names key.name)) ≡ Some key.serial → IsLive b key
  by_name true same as_given = ap (λ (n : ℕ). option_map (λ object. object.serial) (object_at b.names n)) (eqb-true key.name bound.name same) ∙ live ∙ as_given
  by_name false same as_given = as_given

-- DeleteBuffers
without_one : (b : BufferObjects) (name : ℕ) (key : BufferKey) → bytes_of (without_name b name) key ≡ cond (nat_eq key.name name) [] (bytes_of b key)
without_one b name key =
    ap (λ (o : Option Object). bytes_in o key.serial) (object-remove b.names name key.name) ∙ by_name (eqb key.name name) where
      by_name : (same : Bool) → bytes_in (cond same None (object_at b.names key.name)) key.serial ≡ cond same [] (bytes_of b key)
      by_name true = refl
      by_name false = refl

either : (first second : Bool) (bytes : List ℕ) → cond second [] (cond first [] bytes) ≡ cond (first || second) [] bytes
either true true bytes = refl
either true false bytes = refl
either false second bytes = refl

pub without_keeps : (b : BufferObjects) (names : List ℕ) (key : BufferKey) → bytes_of (without_names b names) key ≡ cond (list_any (nat_eq key.name) names) [] (bytes_of b key)
without_keeps b [] key = refl
without_keeps b (name ∷ names) key =
    without_keeps (without_name b name) names key
    ∙ ap (λ (bs : List ℕ). cond (list_any (nat_eq key.name) names) [] bs) (without_one b name key)
    ∙ either (nat_eq key.name name) (list_any (nat_eq key.name) names) (bytes_of b key)

one_live : (b : BufferObjects) (name : ℕ) → NoneComesBack b (without_name b name)
one_live b name key given live = by_name (eqb key.name name) (sym (ap (option_map (λ object. object.serial)) (object-remove b.names name key.name)) ∙ live) where
  by_name : (same : Bool) → option_map (λ object. object.serial) (cond same None (object_at b.names key.name)) ≡ Some key.serial → IsLive b key
  by_name true is = absurd (false≢true (ap is_some is))
  by_name false is = is

pub without_live : (b : BufferObjects) (names : List ℕ) → NoneComesBack b (without_names b names)
without_live b [] key given live = live
without_live b (name ∷ names) key given live = one_live b name key given (without_live (without_name b name) names key given live)
