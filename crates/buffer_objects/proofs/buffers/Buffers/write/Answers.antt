use Rattle.std.proofs.Common.{◌≡◌, ◌+◌, ◌≤◌, ◌∙◌, ℕ, List, [], length, Option, Some, sym, ap, subst, arith}
use Rattle.std.specs.FinMap as map
use Rattle.std.specs.Option.{option_map_or}
use Rattle.object_names.specs.Names.{LiveNames, object_at}
use Rattle.buffer_objects.specs.Buffers.{BufferObjects, live_bytes, bytes_of, most_bytes}
use Rattle.buffer_objects.specs.Commands.{sized, spliced, with_bytes}
use Rattle.buffer_objects.specs.Kept.{IsLive}
use Rattle.buffer_objects.proofs.Keeping.{kept_bytes, live_bytes-bytes}
use Rattle.buffer_objects.proofs.Stored.{size_of_live, length-sized, length-spliced, bytes_in-live}
use Rattle.buffer_objects.specs.declared.object.Object.{Object}
use Rattle.buffer_objects.specs.declared.buffer_key.BufferKey.{BufferKey}
use Rattle.object_names.proofs.Objects.{live-insert, insert_again}
use Rattle.buffer_objects.proofs.buffers.Buffers.write.Goals as goal

pub replace-requires : goal.replace-requires
replace-requires c =
    rw c.replace-object.ensures.new (live-insert c.self.inside.names c.args.key.name (Some (record { serial = c.args.key.serial; bytes = c.new-empty.result })))

-- the names, once the object has its bytes
written : (was : BufferObjects) (key : BufferKey) (empty bytes : List ℕ) (between after : LiveNames Object)
    → between ≡ map.insert was.names key.name (Some (record { serial = key.serial; bytes = empty }))
    → after ≡ map.insert between key.name (Some (record { serial = key.serial; bytes = bytes }))
    → after ≡ map.insert was.names key.name (Some (record { serial = key.serial; bytes = bytes }))
written was key empty bytes between after first second =
    second
    ∙ ap (λ (m : LiveNames Object). map.insert m key.name (Some (record { serial = key.serial; bytes = bytes }))) first
    ∙ insert_again was.names key.name (Some (record { serial = key.serial; bytes = empty })) (Some (record { serial = key.serial; bytes = bytes }))

pub invariant_of-self : goal.invariant_of-self
invariant_of-self c =
    let was : BufferObjects = record { names = c.self.inside.names; bindings = c.self.inside.bindings; made = c.self.inside.made } in
    let live : IsLive was c.args.key = subst (λ (b : BufferObjects). IsLive b c.args.key) (sym c.self.view_is) c.requires.live in
    let held : c.bytes_of.result.items ≡ bytes_of was c.args.key =
    c.bytes_of.ensures ∙ ap (λ (o : Option Object). option_map_or (λ object. object.bytes) o []) c.replace-object.ensures.old ∙ bytes_in-live (object_at was.names c.args.key.name) c.args.key.serial live in
    let place : c.args.place + c.args.size ≤ length (bytes_of was c.args.key) = subst (λ (b : BufferObjects). c.args.place + c.args.size ≤ length (bytes_of b c.args.key)) (sym c.self.view_is) c.requires.within in
    let names = written was c.args.key c.new-empty.result c.spliced-bytes.result c.replace-object.new.self c.replace.new.self c.replace-object.ensures.new c.replace.ensures.new in
    let as_long : length c.spliced-bytes.result ≡ length (bytes_of was c.args.key) =
    ap length c.spliced-bytes.ensures
    ∙ ap (λ (bs : List ℕ). length (spliced bs c.args.place (sized c.args.size c.args.piece.now))) held
    ∙ length-spliced (bytes_of was c.args.key) c.args.place (sized c.args.size c.args.piece.now) (omega (arith, place, length-sized c.args.size c.args.piece.now)) in
    let same : live_bytes (with_bytes was c.args.key c.spliced-bytes.result) ≡ live_bytes was =
    omega (arith, as_long, live_bytes-bytes was c.args.key c.spliced-bytes.result, size_of_live (object_at was.names c.args.key.name) c.args.key.serial live) in
    rw names
    (c.self.invariant.0 ∙ sym same, kept_bytes was c.args.key c.spliced-bytes.result live (subst (λ (n : ℕ). n ≤ most_bytes) (sym same) c.self.invariant.1.few) c.self.invariant.1)

pub returns : goal.returns
returns c =
    let was : BufferObjects = record { names = c.self.inside.names; bindings = c.self.inside.bindings; made = c.self.inside.made } in
    let live : IsLive was c.args.key = subst (λ (b : BufferObjects). IsLive b c.args.key) (sym c.self.view_is) c.requires.live in
    let held : c.bytes_of.result.items ≡ bytes_of was c.args.key =
    c.bytes_of.ensures ∙ ap (λ (o : Option Object). option_map_or (λ object. object.bytes) o []) c.replace-object.ensures.old ∙ bytes_in-live (object_at was.names c.args.key.name) c.args.key.serial live in
    let bytes : c.spliced-bytes.result ≡ spliced (bytes_of was c.args.key) c.args.place (sized c.args.size c.args.piece.now) =
    c.spliced-bytes.ensures ∙ ap (λ (bs : List ℕ). spliced bs c.args.place (sized c.args.size c.args.piece.now)) held in
    let names = written was c.args.key c.new-empty.result c.spliced-bytes.result c.replace-object.new.self c.replace.new.self c.replace-object.ensures.new c.replace.ensures.new in
    rw (← c.self.view_is, names) (ap (λ (bs : List ℕ). with_bytes was c.args.key bs) bytes)
