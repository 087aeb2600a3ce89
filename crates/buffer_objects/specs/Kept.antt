-- What always holds of the buffer objects.
use Rattle.std.specs.Prelude.{ℕ, Bool, ◌==◌, ◌&&◌, ◌<◌, ◌≤◌, ◌≡◌, ◌≢◌, Some, IfSome}
use Rattle.std.specs.Option.{option_map}
use Rattle.gl_tokens.specs.declared.buffer_target.BufferTarget.{BufferTarget}
use Rattle.object_names.specs.Names.{object_at}
use Rattle.buffer_objects.specs.Buffers.{BufferObjects, bytes_of, key_at, live_bytes, most_bytes}
use Rattle.buffer_objects.specs.declared.buffer_key.BufferKey.{BufferKey}

-- the object that a key names isn't deleted
abbrev pub IsLive : BufferObjects → BufferKey → Type 0
IsLive buffers key = option_map (λ object. object.serial) (object_at buffers.names key.name) ≡ Some key.serial

-- what is bound is an object with a name above 0; the serial of each object was taken; not too many bytes are live
pub record IsKept (buffers : BufferObjects) : Type 0 where
  pub bound : (target : BufferTarget) → IfSome (key_at buffers.bindings target) (λ key. IsLive buffers key × (key.name ≢ 0))
  pub taken : (name : ℕ) → IfSome (object_at buffers.names name) (λ object. object.serial < buffers.made)
  pub few : live_bytes buffers ≤ most_bytes

-- two keys name the same object
abbrev pub is_same : BufferKey → BufferKey → Bool
is_same key other = other.name == key.name && key.serial == other.serial

-- each key reads what it read
abbrev pub KeepsBytes : BufferObjects → BufferObjects → Type 0
KeepsBytes old new = (key : BufferKey) → bytes_of new key ≡ bytes_of old key

-- no key that was given comes to name an object again, once its own is deleted
abbrev pub NoneComesBack : BufferObjects → BufferObjects → Type 0
NoneComesBack old new = (key : BufferKey) → key.serial < old.made → IsLive new key → IsLive old key
