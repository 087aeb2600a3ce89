use Rattle.std.proofs.Common.{◌≡◌, ◌∙◌, ◌++◌, ◌+◌, List, Some, None, drop, refl, ap}
use Rattle.std.specs.Prelude.{is_some, option_to_list}
use Rattle.gl_records.specs.declared.clip_vertex.ClipVertex.{ClipVertex}
use Rattle.prim_assembly.specs.Primitives.{primitives}
use Rattle.draw_primitives.specs.Draw.{corners_of, kind_of, set_up_all, shaded}
use Rattle.draw_primitives.specs.Memory.{Source}
use Rattle.draw_primitives.specs.Fan.{clipped, fan, set_up}
use Rattle.draw_primitives.proofs.Left.{left-next}
use Rattle.draw_primitives.proofs.draw.next_prim.Goals as goal

pub returns-in-Some-clause-prims : goal.returns-in-Some-clause-prims
returns-in-Some-clause-prims c =
    let state = c.args.state.now in
    let kind = kind_of c.args.assembly.mode in
    let source : Source = record { rec = c.args.rec.now; element = c.args.element; memory = c.args.memory.now } in
    let corners : c.corners.result ≡ corners_of state source c.corners-numbers.result =
    c.corners.ensures ∙ ap (shaded state.flat) c.vertices-vertices.ensures.vertices in
    let is : c.clipped-fan.result ≡ fan (clipped kind (is_some state.vertex.plane) (corners_of state source c.corners-numbers.result)) =
    rw (← c.kind_of-kind.ensures, ← c.has_plane-user.ensures, ← corners) c.clipped-fan.ensures in
    let made : set_up state.rules kind c.args.size c.clipped-fan.result ≡ option_to_list (Some c.in-Some.prim) ++ set_up state.rules kind c.args.size c.next.new.self =
    rw (← c.kind_of-kind.ensures) c.in-Some.ensures.prims in
    c.loop-k.invariant.left
    ∙ left-next state source c.args.size kind (primitives c.args.assembly.mode c.args.assembly.amount) c.loop-k.k c.corners-numbers.result (Some c.in-Some.prim) c.clipped-fan.result c.next.new.self c.corners-numbers.ensures.value is made

pub loop-k-preserved : goal.loop-k-preserved
loop-k-preserved c =
    let state = c.args.state.now in
    let kind = kind_of c.args.assembly.mode in
    let all = primitives c.args.assembly.mode c.args.assembly.amount in
    let source : Source = record { rec = c.args.rec.now; element = c.args.element; memory = c.args.memory.now } in
    let corners : c.corners.result ≡ corners_of state source c.corners-numbers.result =
    c.corners.ensures ∙ ap (shaded state.flat) c.vertices-vertices.ensures.vertices in
    let is : c.clipped-fan.result ≡ fan (clipped kind (is_some state.vertex.plane) (corners_of state source c.corners-numbers.result)) =
    rw (← c.kind_of-kind.ensures, ← c.has_plane-user.ensures, ← corners) c.clipped-fan.ensures in
    let made : set_up state.rules kind c.args.size c.clipped-fan.result ≡ option_to_list None ++ set_up state.rules kind c.args.size c.next.new.self =
    rw (← c.kind_of-kind.ensures) c.in_default.ensures.prims in
    record {
      left = c.loop-k.invariant.left
          ∙ left-next state source c.args.size kind all c.loop-k.k c.corners-numbers.result None c.clipped-fan.result c.next.new.self c.corners-numbers.ensures.value is made
          ∙ ap (λ (pieces : List (List ClipVertex)). set_up state.rules kind c.args.size pieces ++ set_up_all state source c.args.size kind (drop (c.loop-k.k + 1) all)) (c.in_default.ensures.none refl);
      known = c.vertices-vertices.ensures.known;
    }
