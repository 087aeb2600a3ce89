-- The commands on buffer objects, with their errors in order (OpenGL ES 1.1.12, 2.9; OpenGL 1.5, 2.9). The limits on names
-- and bytes are this project's.
use Rattle.std.specs.Prelude.{ℕ, ◌+◌, ◌-◌, ◌==◌, nat_lt, ℤ, pos, int_lt, nat_abs, Bool, ◌||◌, List, [], ◌++◌, length, take, drop, replicate, Option, Some, None, Result, Ok, Err, if◌then◌else◌}
use Rattle.std.specs.FinMap as map
use Rattle.std.specs.List.{fold}
use Rattle.gl_tokens.specs.BufferTarget as target
use Rattle.gl_tokens.specs.BufferUsage as usage
use Rattle.gl_tokens.specs.Commands.{done, known, unless, ◌>>=◌}
use Rattle.gl_tokens.specs.declared.buffer_target.BufferTarget.{BufferTarget}
use Rattle.gl_tokens.specs.declared.gl_error.GlError.{GlError}
use Rattle.gl_tokens.specs.declared.gl_error.GlError.TheVariants.{InvalidValue, InvalidOperation, OutOfMemory}
use Rattle.object_names.specs.Giving as giving
use Rattle.object_names.specs.Names.{object_at}
use Rattle.buffer_objects.specs.Buffers.{BufferObjects, most_bytes, key_at, with_key, bytes_of, live_bytes}
use Rattle.buffer_objects.specs.declared.bindings.Bindings.{Bindings}
use Rattle.buffer_objects.specs.declared.buffer_key.BufferKey.{BufferKey}
use Rattle.buffer_objects.specs.declared.object.Object.{Object}

-- GenBuffers: the names, or the error
abbrev pub given_names : BufferObjects → ℤ → Result (List ℕ) GlError
given_names buffers count = giving.given_names buffers.names count

-- the state behind it: the names are live, and stand for no object yet
abbrev pub behind_names : BufferObjects → Result (List ℕ) GlError → BufferObjects
behind_names buffers given = record buffers { names = giving.behind_names buffers.names given }

-- an object with no bytes is made under this name
abbrev pub with_object : BufferObjects → ℕ → BufferObjects
with_object buffers name = record buffers { names = map.insert buffers.names name (Some (record { serial = buffers.made; bytes = [] })); made = buffers.made + 1 }

abbrev pub with_binding : BufferObjects → BufferTarget → Option BufferKey → BufferObjects
with_binding buffers target key = record buffers { bindings = with_key buffers.bindings target key }

-- the state once this name is bound; a name that stands for no object comes to stand for a new one
abbrev pub named : BufferObjects → BufferTarget → ℕ → Option Object → Result BufferObjects GlError
named buffers target name (Some object) = Ok (with_binding buffers target (Some (record { name = name; serial = object.serial })))
named buffers target name None =
    unless (giving.lacks_room buffers.names name) OutOfMemory
    (Ok (with_binding (with_object buffers name) target (Some (record { name = name; serial = buffers.made }))))

-- BindBuffer
abbrev pub bind : BufferObjects → ℕ → ℕ → BufferObjects × Option GlError
bind buffers code name = done buffers do
  target ← known (target.from_code_of code)
  if name == 0 then Ok (with_binding buffers target None) else named buffers target name (object_at buffers.names name)

-- so many bytes: those of the piece, zeros past its end
abbrev pub sized : ℕ → List ℕ → List ℕ
sized size piece = take size piece ++ replicate (size - length piece) 0

-- the object that a key names has these bytes from now on
abbrev pub with_bytes : BufferObjects → BufferKey → List ℕ → BufferObjects
with_bytes buffers key bytes = record buffers { names = map.insert buffers.names key.name (Some (record { serial = key.serial; bytes = bytes })) }

-- where none is bound, the command isn't allowed
abbrev pub some_bound : Option BufferKey → Result BufferKey GlError
some_bound (Some key) = Ok key
some_bound None = Err InvalidOperation

-- the object that BufferData fills, or the first error but for memory
abbrev pub data_key : BufferObjects → ℕ → ℕ → ℤ → Result BufferKey GlError
data_key buffers code usage_code size = do
  target ← known (target.from_code_of code)
  usage ← known (usage.from_code_of usage_code)
  unless (int_lt size (pos 0)) InvalidValue (some_bound (key_at buffers.bindings target))

-- too many bytes would be live after this
abbrev pub is_past_bytes : BufferObjects → Bool
is_past_bytes buffers = nat_lt most_bytes (live_bytes buffers)

-- BufferData
abbrev pub data_of : BufferObjects → ℕ → ℕ → ℤ → List ℕ → BufferObjects × Option GlError
data_of buffers code usage_code size piece = done buffers do
  key ← data_key buffers code usage_code size
  let filled = with_bytes buffers key (sized (nat_abs size) piece)
  unless (is_past_bytes filled) OutOfMemory (Ok filled)

-- the object that BufferSubData writes to, or the first error
abbrev pub sub_key : BufferObjects → ℕ → ℤ → ℤ → Result BufferKey GlError
sub_key buffers code offset size = do
  target ← known (target.from_code_of code)
  key ← unless (int_lt offset (pos 0) || int_lt size (pos 0)) InvalidValue (some_bound (key_at buffers.bindings target))
  unless (nat_lt (length (bytes_of buffers key)) (nat_abs offset + nat_abs size)) InvalidValue (Ok key)

-- these bytes stand in the list from a place on
abbrev pub spliced : List ℕ → ℕ → List ℕ → List ℕ
spliced bytes place part = take place bytes ++ (part ++ drop (place + length part) bytes)

-- BufferSubData
abbrev pub sub_data : BufferObjects → ℕ → ℤ → ℤ → List ℕ → BufferObjects × Option GlError
sub_data buffers code offset size piece = done buffers do
  key ← sub_key buffers code offset size
  Ok (with_bytes buffers key (spliced (bytes_of buffers key) (nat_abs offset) (sized (nat_abs size) piece)))

-- what is bound, once this name is gone
abbrev pub unbound_key : Option BufferKey → ℕ → Option BufferKey
unbound_key None name = None
unbound_key (Some key) name = if key.name == name then None else Some key

abbrev pub unbound : Bindings → ℕ → Bindings
unbound bindings name = record { array = unbound_key bindings.array name; element_array = unbound_key bindings.element_array name }

-- a name that is gone: 0, and one that isn't live, change nothing
abbrev pub without_name : BufferObjects → ℕ → BufferObjects
without_name buffers name = record buffers { names = map.remove buffers.names name; bindings = unbound buffers.bindings name }

-- DeleteBuffers
abbrev pub without_names : BufferObjects → List ℕ → BufferObjects
without_names buffers names = fold without_name buffers names
