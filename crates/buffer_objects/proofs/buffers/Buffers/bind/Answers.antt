use Rattle.std.proofs.Common.{◌≡◌, ◌∙◌, ℕ, List, [], Some, None, sym, ap}
use Rattle.std.specs.FinMap as map
use Rattle.std.specs.Option.{option_map}
use Rattle.object_names.specs.Names.{object_at}
use Rattle.buffer_objects.specs.Buffers.{BufferObjects}
use Rattle.buffer_objects.specs.Commands.{with_object}
use Rattle.buffer_objects.proofs.Keeping.{kept_binding, kept_object, live_bytes-object, bound_object}
use Rattle.buffer_objects.proofs.buffers.Buffers.bind.Goals as goal

pub invariant_of-self : goal.invariant_of-self
invariant_of-self c =
    let was : BufferObjects = record { names = c.self.inside.names; bindings = c.self.inside.bindings; made = c.self.inside.made } in
    rw c.put.ensures (c.self.invariant.0, kept_binding was c.in-Some.target None c.self.invariant.1 tt)

pub invariant_of-self-in-Some-get : goal.invariant_of-self-in-Some-get
invariant_of-self-in-Some-get c =
    let was : BufferObjects = record { names = c.self.inside.names; bindings = c.self.inside.bindings; made = c.self.inside.made } in
    rw c.put-in-Some-get.ensures (
      c.self.invariant.0,
      kept_binding was c.in-Some.target (Some (record { name = c.args.name; serial = c.in-Some-get.object.now.serial })) c.self.invariant.1
          (ap (option_map (λ object. object.serial)) (sym c.in-Some-get.ensures), c.if-name-eq0.false),
    )

pub invariant_of-self-2 : goal.invariant_of-self-2
invariant_of-self-2 c =
    let was : BufferObjects = record { names = c.self.inside.names; bindings = c.self.inside.bindings; made = c.self.inside.made } in
    let bytes : c.new-bytes.result ≡ [] = c.new-bytes.ensures ∙ c.new.ensures.items in
    let none : object_at was.names c.args.name ≡ None = sym c.in_default-get.ensures in
    let names : c.put-2.new.self ≡ map.insert was.names c.args.name (Some (record { serial = was.made; bytes = [] })) =
    c.in_ok-put.ensures.live ∙ ap (λ (bs : List ℕ). map.insert was.names c.args.name (Some (record { serial = was.made; bytes = bs }))) bytes in
    rw (names, c.put-3.ensures) (
      c.self.invariant.0 ∙ sym (live_bytes-object was c.args.name none),
      kept_binding (with_object was c.args.name) c.in-Some.target (Some (record { name = c.args.name; serial = was.made })) (kept_object was c.args.name none c.self.invariant.1)
          (bound_object was c.args.name c.if-name-eq0.false),
    )
