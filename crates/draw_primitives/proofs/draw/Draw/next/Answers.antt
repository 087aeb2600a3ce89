use Rattle.std.proofs.Common.{◌≡◌, ◌∙◌, ◌∷◌, ◌++◌, List, drop, sym, ap}
use Rattle.gl_records.specs.declared.prim.Primitive.{Primitive}
use Rattle.prim_assembly.specs.Primitives.{primitives}
use Rattle.draw_primitives.specs.Draw.{kind_of, primitives_left, set_up_all}
use Rattle.draw_primitives.specs.Fan.{set_up}
use Rattle.draw_primitives.proofs.draw.Draw.next.Goals as goal

pub returns-in-Some-clause-prims : goal.returns-in-Some-clause-prims
returns-in-Some-clause-prims c =
    let inside = c.self.inside in
    let kind = kind_of inside.assembly.mode in
    let memory = c.args.memory.now in
    let behind : List Primitive =
    set_up_all inside.state (record { rec = inside.rec; element = inside.element; memory = memory }) c.args.size kind (drop inside.next (primitives inside.assembly.mode inside.assembly.amount)) in
    let made : set_up inside.state.rules kind c.args.size inside.fan ≡ c.in-Some.prim ∷ set_up inside.state.rules kind c.args.size c.next.new.self =
    rw (← c.kind_of-kind.ensures) c.in-Some.ensures.prims in
    sym (ap (primitives_left memory c.args.size) c.self.view_is) ∙ ap (λ (own : List Primitive). own ++ behind) made

pub returns-in-Some-clause-known : goal.returns-in-Some-clause-known
returns-in-Some-clause-known c = rw (← c.self.view_is) at c.requires.known
