use Rattle.std.proofs.Common.{◌≡◌, ◌∙◌, ap, arith}
use Rattle.object_names.specs.Names.{object_at, size_or_0}
use Rattle.buffer_objects.specs.Buffers.{BufferObjects, object_size}
use Rattle.buffer_objects.proofs.Keeping.{live_bytes-without, kept_without}
use Rattle.buffer_objects.proofs.buffers.Buffers.drop_name.Goals as goal

pub overflow_sub-self : goal.overflow_sub-self
overflow_sub-self c =
    let was : BufferObjects = record { names = c.self.inside.names; bindings = c.self.inside.bindings; made = c.self.inside.made } in
    let size : c.size_of.result ≡ size_or_0 object_size (object_at was.names c.args.name) = c.size_of.ensures ∙ ap (size_or_0 object_size) (c.as_ref.ensures.value ∙ c.remove-gone.ensures.old) in
    omega (arith, size, live_bytes-without was c.args.name, c.self.invariant.0)

pub invariant_of-self : goal.invariant_of-self
invariant_of-self c =
    let was : BufferObjects = record { names = c.self.inside.names; bindings = c.self.inside.bindings; made = c.self.inside.made } in
    let size : c.size_of.result ≡ size_or_0 object_size (object_at was.names c.args.name) = c.size_of.ensures ∙ ap (size_or_0 object_size) (c.as_ref.ensures.value ∙ c.remove-gone.ensures.old) in
    rw (c.remove-gone.ensures.new, c.unbind.ensures)
    (omega (arith, size, live_bytes-without was c.args.name, c.self.invariant.0), kept_without was c.args.name c.self.invariant.1)
