use Rattle.std.proofs.Common.{◌≡◌, ◌∙◌, sym}
use Rattle.std.proofs.lemmas.Int.{to_z-of_z}
use Rattle.object_names.specs.Giving as giving
use Rattle.buffer_objects.specs.Buffers.{BufferObjects}
use Rattle.buffer_objects.proofs.Keeping.{live_bytes-given, kept_given}
use Rattle.buffer_objects.proofs.buffers.Buffers.make_names.Goals as goal

pub invariant_of-self-2 : goal.invariant_of-self-2
invariant_of-self-2 c =
    let was : BufferObjects = record { names = c.self.inside.names; bindings = c.self.inside.bindings; made = c.self.inside.made } in
    let live : c.make_names.new.self ≡ giving.behind_names was.names (giving.given_names was.names c.args.count) =
    simp (to_z-of_z, c.ranges.count) at c.in_ok-names.ensures.live in
    rw live
    (c.self.invariant.0 ∙ sym (live_bytes-given was c.args.count), kept_given was c.args.count c.self.invariant.1)
