-- The bytes of an object, and what commands store.
use Rattle.std.proofs.Common.{◌≡◌, ◌+◌, ◌-◌, ◌≤◌, ℕ, Bool, true, false, cond, List, [], ◌++◌, length, take, drop, replicate, Option, Some, None, Result, Ok, refl, sym, ap, subst, length-append, length-take, length-drop, arith}
use Rattle.std.specs.Option.{option_map, option_map_or, unwrap_or}
use Rattle.std.proofs.lemmas.List.{length-replicate}
use Rattle.std.proofs.lemmas.Bool.{eq-eqb}
use Rattle.gl_tokens.specs.Commands.{done, unless, ◌>>=◌}
use Rattle.gl_tokens.specs.declared.gl_error.GlError.{GlError}
use Rattle.gl_tokens.specs.declared.gl_error.GlError.TheVariants.{OutOfMemory}
use Rattle.object_names.specs.Names.{size_or_0}
use Rattle.buffer_objects.specs.Buffers.{BufferObjects, bytes_in, object_size}
use Rattle.buffer_objects.specs.Commands.{sized, spliced, with_bytes, is_past_bytes}
use Rattle.buffer_objects.specs.declared.buffer_key.BufferKey.{BufferKey}
use Rattle.buffer_objects.specs.declared.object.Object.{Object}

pub length-sized : (size : ℕ) (piece : List ℕ) → length (sized size piece) ≡ size
length-sized size piece = omega (arith, length-append (take size piece) (replicate (size - length piece) 0), length-take size piece, length-replicate {A = ℕ} (size - length piece) 0)

-- the bytes of the very object that a name stands for
pub bytes_in-live : (o : Option Object) (serial : ℕ) → option_map (λ object. object.serial) o ≡ Some serial → option_map_or (λ object. object.bytes) o [] ≡ bytes_in o serial
bytes_in-live None serial live = refl
bytes_in-live (Some object) serial live =
    ap (λ (b : Bool). cond b object.bytes []) (sym (eq-eqb object.serial serial (ap (λ o. unwrap_or o 0) live)))

-- and how many they are
pub size_of_live : (o : Option Object) (serial : ℕ) → option_map (λ object. object.serial) o ≡ Some serial → size_or_0 object_size o ≡ length (bytes_in o serial)
size_of_live None serial live = refl
size_of_live (Some object) serial live =
    ap (λ (b : Bool). length (cond b object.bytes [])) (sym (eq-eqb object.serial serial (ap (λ o. unwrap_or o 0) live)))

abbrev stored : BufferObjects → List ℕ → BufferKey → Result BufferObjects GlError
stored b bytes key = unless (is_past_bytes (with_bytes b key bytes)) OutOfMemory (Ok (with_bytes b key bytes))

pub stored_past : (b : BufferObjects) (bytes : List ℕ) (answer : Result BufferKey GlError) (key : BufferKey) → Ok key ≡ answer → is_past_bytes (with_bytes b key bytes) ≡ true
    → (b, Some OutOfMemory) ≡ done b (answer >>= stored b bytes)
stored_past b bytes answer key is past =
    subst (λ (r : Result BufferKey GlError). (b, Some OutOfMemory) ≡ done b (r >>= stored b bytes)) is
    (ap (λ (t : Bool). done b (unless t OutOfMemory (Ok (with_bytes b key bytes)))) (sym past))

pub stored_well : (b : BufferObjects) (bytes : List ℕ) (answer : Result BufferKey GlError) (key : BufferKey) → Ok key ≡ answer → is_past_bytes (with_bytes b key bytes) ≡ false
    → (with_bytes b key bytes, None) ≡ done b (answer >>= stored b bytes)
stored_well b bytes answer key is past =
    subst (λ (r : Result BufferKey GlError). (with_bytes b key bytes, None) ≡ done b (r >>= stored b bytes)) is
    (ap (λ (t : Bool). done b (unless t OutOfMemory (Ok (with_bytes b key bytes)))) (sym past))

pub length-spliced : (bytes : List ℕ) (place : ℕ) (part : List ℕ) → place + length part ≤ length bytes → length (spliced bytes place part) ≡ length bytes
length-spliced bytes place part within =
    omega (arith, length-append (take place bytes) (part ++ drop (place + length part) bytes), length-append part (drop (place + length part) bytes), length-take place bytes, length-drop (place + length part) bytes, within)
