-- Buffer objects: live names, the objects that they stand for with their bytes, and which are bound (OpenGL ES 1.1.12,
-- 2.9; OpenGL 1.5, 2.9).
use Rattle.std.specs.Prelude.{ℕ, ◌==◌, Bool, List, [], Option, Some, None, is_some, if◌then◌else◌, length, refl}
use Rattle.std.specs.Coded.{Coded, code_by, coded×, coded_ℕ, coded_list, coded_option}
use Rattle.std.specs.FinMap as map
use Rattle.std.specs.Option.{option_map, option_map_or, option_and_then}
use Rattle.std.specs.Ordering.{nat_cmp}
use Rattle.gl_tokens.specs.BufferTarget.{from_code_of}
use Rattle.gl_tokens.specs.declared.buffer_target.BufferTarget.{BufferTarget}
use Rattle.gl_tokens.specs.declared.buffer_target.BufferTarget.TheVariants.{Array, ElementArray}
use Rattle.object_names.specs.Names.{LiveNames, object_at, total}
use Rattle.buffer_objects.specs.declared.bindings.Bindings.{Bindings}
use Rattle.buffer_objects.specs.declared.buffer_key.BufferKey.{BufferKey}
use Rattle.buffer_objects.specs.declared.object.Object.{Object}

-- live names with what they stand for, what is bound, and how many objects were made so far
pub record BufferObjects : Type 0 where
  pub names : LiveNames Object
  pub bindings : Bindings
  pub made : ℕ

abbrev key_code : Coded (Option BufferKey)
key_code = coded_option (code_by (ℕ × ℕ) (coded× coded_ℕ coded_ℕ) (λ key. (key.name, key.serial)) (λ p. record { name = p.0; serial = p.1 }) (λ _. refl))

abbrev object_code : Coded Object
object_code = code_by (ℕ × List ℕ) (coded× coded_ℕ (coded_list coded_ℕ)) (λ object. (object.serial, object.bytes)) (λ p. record { serial = p.0; bytes = p.1 }) (λ _. refl)

abbrev bindings_code : Coded Bindings
bindings_code = code_by (Option BufferKey × Option BufferKey) (coded× key_code key_code) (λ b. (b.array, b.element_array)) (λ p. record { array = p.0; element_array = p.1 }) (λ _. refl)

abbrev pub buffers_code : Coded BufferObjects
buffers_code =
    code_by (LiveNames Object × (Bindings × ℕ)) (coded× (map.code {R = nat_cmp} coded_ℕ (coded_option object_code)) (coded× bindings_code coded_ℕ))
    (λ b. (b.names, (b.bindings, b.made))) (λ p. record { names = p.0; bindings = p.1.0; made = p.1.1 }) (λ _. refl)

-- so many bytes may be live: 2^26
abbrev pub most_bytes : ℕ
most_bytes = 67108864

-- nothing is bound
abbrev pub opening_bindings : Bindings
opening_bindings = record { array = None; element_array = None }

-- no name is live
abbrev pub opening_buffers : BufferObjects
opening_buffers = record { names = map.empty; bindings = opening_bindings; made = 0 }

-- the object that is bound to a target
abbrev pub key_at : Bindings → BufferTarget → Option BufferKey
key_at bindings Array = bindings.array
key_at bindings ElementArray = bindings.element_array

abbrev pub with_key : Bindings → BufferTarget → Option BufferKey → Bindings
with_key bindings Array key = record bindings { array = key }
with_key bindings ElementArray key = record bindings { element_array = key }

-- the name that is bound to a target, 0 where none is
abbrev pub binding : BufferObjects → BufferTarget → ℕ
binding buffers target = option_map_or (λ key. key.name) (key_at buffers.bindings target) 0

abbrev pub with_name : BufferKey → ℕ × BufferKey
with_name key = (key.name, key)

-- name and object that are bound to the target of this code
abbrev pub bound_at : BufferObjects → ℕ → Option (ℕ × BufferKey)
bound_at buffers code = option_and_then (λ target. option_map with_name (key_at buffers.bindings target)) (from_code_of code)

-- the name that is bound to it, 0 where none is
abbrev pub bound_name : BufferObjects → ℕ → ℕ
bound_name buffers code = option_map_or (binding buffers) (from_code_of code) 0

-- the bytes of this very object, none where it is another
abbrev pub bytes_in : Option Object → ℕ → List ℕ
bytes_in None serial = []
bytes_in (Some object) serial = if object.serial == serial then object.bytes else []

-- the bytes of the object that a key names, none after it was deleted
abbrev pub bytes_of : BufferObjects → BufferKey → List ℕ
bytes_of buffers key = bytes_in (object_at buffers.names key.name) key.serial

-- the name stands for an object
abbrev pub is_buffer : BufferObjects → ℕ → Bool
is_buffer buffers name = is_some (object_at buffers.names name)

abbrev pub object_size : Object → ℕ
object_size object = length object.bytes

-- the bytes of all objects together
abbrev pub live_bytes : BufferObjects → ℕ
live_bytes buffers = total object_size buffers.names
