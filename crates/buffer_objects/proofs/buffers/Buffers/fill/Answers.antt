use Rattle.std.proofs.Common.{◌≡◌, ◌+◌, ◌-◌, ◌<◌, ◌≤◌, ◌∙◌, ℕ, List, Some, Ok, nat_abs, sym, ap, subst, arith}
use Rattle.std.specs.FinMap as map
use Rattle.std.proofs.lemmas.Int.{to_z-of_z}
use Rattle.std.proofs.lemmas.Bool.{lt-ltb, le-ltb}
use Rattle.object_names.specs.Names.{object_at, total, size_or_0}
use Rattle.buffer_objects.specs.Buffers.{BufferObjects, live_bytes, object_size, most_bytes}
use Rattle.buffer_objects.specs.Commands.{sized, with_bytes, data_key}
use Rattle.buffer_objects.specs.Kept.{IsLive}
use Rattle.buffer_objects.proofs.Keeping.{kept_bytes, live_bytes-bytes, live_bytes-without}
use Rattle.buffer_objects.proofs.Stored.{length-sized, stored_past, stored_well}
use Rattle.buffer_objects.specs.declared.buffer_key.BufferKey.{BufferKey}
use Rattle.buffer_objects.proofs.buffers.Buffers.fill.Goals as goal

pub overflow_sub-live : goal.overflow_sub-live
overflow_sub-live c =
    let was : BufferObjects = record { names = c.self.inside.names; bindings = c.self.inside.bindings; made = c.self.inside.made } in
    let size : c.size_of.result ≡ size_or_0 object_size (object_at was.names c.in-Ok.key.name) = c.size_of.ensures ∙ ap (size_or_0 object_size) c.get.ensures in
    omega (arith, size, live_bytes-without was c.in-Ok.key.name, c.self.invariant.0)

-- the bytes that are live after the command
live_after : (was : BufferObjects) (key : BufferKey) (size count : ℕ) (piece : List ℕ) (live : ℕ) → size ≡ size_or_0 object_size (object_at was.names key.name) → live ≡ live_bytes was
    → live_bytes (with_bytes was key (sized count piece)) ≡ live - size + count
live_after was key size count piece live is total =
    omega (arith, is, total, live_bytes-without was key.name, live_bytes-bytes was key (sized count piece), length-sized count piece)

pub returns-then-live-gt-MOST_BYTES-clause-run : goal.returns-then-live-gt-MOST_BYTES-clause-run
returns-then-live-gt-MOST_BYTES-clause-run c =
    let was : BufferObjects = record { names = c.self.inside.names; bindings = c.self.inside.bindings; made = c.self.inside.made } in
    let bytes = sized (nat_abs c.args.size) c.args.piece in
    let size = c.size_of.ensures ∙ ap (size_or_0 object_size) c.get.ensures in
    let same = live_after was c.in-Ok.key c.size_of.result (nat_abs c.args.size) c.args.piece c.self.inside.live size c.self.invariant.0 in
    let is : Ok c.in-Ok.key ≡ data_key was c.args.target c.args.usage c.args.size = subst (λ (b : BufferObjects). Ok c.in-Ok.key ≡ data_key b c.args.target c.args.usage c.args.size) (sym c.self.view_is) (simp (to_z-of_z, c.ranges.size) at c.in-Ok.ensures.value) in
    let count : c.unsigned_abs-size.result ≡ nat_abs c.args.size = simp (to_z-of_z, c.ranges.size) at c.unsigned_abs-size.ensures.value in
    let over : most_bytes < live_bytes (with_bytes was c.in-Ok.key bytes) = omega (arith, same, count, c.if-live-gt-MOST_BYTES.true) in
    rw (← c.self.view_is)
    (stored_past was bytes (data_key was c.args.target c.args.usage c.args.size) c.in-Ok.key is (lt-ltb most_bytes (live_bytes (with_bytes was c.in-Ok.key bytes)) over))

pub invariant_of-self : goal.invariant_of-self
invariant_of-self c =
    let was : BufferObjects = record { names = c.self.inside.names; bindings = c.self.inside.bindings; made = c.self.inside.made } in
    let count = c.unsigned_abs-size.result in
    let bytes = sized count c.args.piece in
    let size = c.size_of.ensures ∙ ap (size_or_0 object_size) c.get.ensures in
    let same = live_after was c.in-Ok.key c.size_of.result count c.args.piece c.self.inside.live size c.self.invariant.0 in
    let names : c.replace.new.self ≡ map.insert was.names c.in-Ok.key.name (Some (record { serial = c.in-Ok.key.serial; bytes = bytes })) =
    c.replace.ensures.new ∙ ap (λ (bs : List ℕ). map.insert was.names c.in-Ok.key.name (Some (record { serial = c.in-Ok.key.serial; bytes = bs }))) c.in_ok-bytes.ensures in
    let live : IsLive was c.in-Ok.key = subst (λ (b : BufferObjects). IsLive b c.in-Ok.key) (sym c.self.view_is) c.in-Ok.ensures.live in
    rw names
    (sym same, kept_bytes was c.in-Ok.key bytes live (omega (arith, same, c.if-live-gt-MOST_BYTES.false)) c.self.invariant.1)

pub returns-clause-run : goal.returns-clause-run
returns-clause-run c =
    let was : BufferObjects = record { names = c.self.inside.names; bindings = c.self.inside.bindings; made = c.self.inside.made } in
    let bytes = sized (nat_abs c.args.size) c.args.piece in
    let size = c.size_of.ensures ∙ ap (size_or_0 object_size) c.get.ensures in
    let same = live_after was c.in-Ok.key c.size_of.result (nat_abs c.args.size) c.args.piece c.self.inside.live size c.self.invariant.0 in
    let is : Ok c.in-Ok.key ≡ data_key was c.args.target c.args.usage c.args.size = subst (λ (b : BufferObjects). Ok c.in-Ok.key ≡ data_key b c.args.target c.args.usage c.args.size) (sym c.self.view_is) (simp (to_z-of_z, c.ranges.size) at c.in-Ok.ensures.value) in
    let count : c.unsigned_abs-size.result ≡ nat_abs c.args.size = simp (to_z-of_z, c.ranges.size) at c.unsigned_abs-size.ensures.value in
    let within : live_bytes (with_bytes was c.in-Ok.key bytes) ≤ most_bytes = omega (arith, same, count, c.if-live-gt-MOST_BYTES.false) in
    let stored_bytes : c.in_ok-bytes.bytes ≡ bytes = c.in_ok-bytes.ensures ∙ ap (λ (n : ℕ). sized n c.args.piece) count in
    let names : c.replace.new.self ≡ map.insert was.names c.in-Ok.key.name (Some (record { serial = c.in-Ok.key.serial; bytes = bytes })) =
    c.replace.ensures.new ∙ ap (λ (bs : List ℕ). map.insert was.names c.in-Ok.key.name (Some (record { serial = c.in-Ok.key.serial; bytes = bs }))) stored_bytes in
    rw (names, ← c.self.view_is)
    (stored_well was bytes (data_key was c.args.target c.args.usage c.args.size) c.in-Ok.key is (le-ltb most_bytes (live_bytes (with_bytes was c.in-Ok.key bytes)) within))
