use Rattle.std.proofs.Common.{◌≡◌, drop}
use Rattle.std.specs.Prelude.{IfSome}
use Rattle.prim_assembly.specs.Primitives.{primitives}
use Rattle.draw_primitives.specs.Draw.{kind_of, set_up_all}
use Rattle.draw_primitives.specs.Known.{AreVertices}
use Rattle.draw_primitives.proofs.draw.next_prim.Given as goal

abbrev pub invariant-loop-k : goal.invariant-loop-k
invariant-loop-k l = record {
  left : set_up_all l.state (record { rec = l.rec; element = l.element; memory = l.memory }) l.size (kind_of l.assembly.mode) (drop l.fn.next (primitives l.assembly.mode l.assembly.amount))
      ≡ set_up_all l.state (record { rec = l.rec; element = l.element; memory = l.memory }) l.size (kind_of l.assembly.mode) (drop l.k (primitives l.assembly.mode l.assembly.amount));
  known : IfSome l.known (AreVertices l.state (record { rec = l.rec; element = l.element; memory = l.memory }));
}
