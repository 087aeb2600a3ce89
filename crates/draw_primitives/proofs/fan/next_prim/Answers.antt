use Rattle.std.proofs.Common.{◌∙◌, Some, None, sym, arith}
use Rattle.draw_primitives.proofs.Left.{fan-set-up}
use Rattle.draw_primitives.proofs.fan.next_prim.Goals as goal

pub returns-in-Some-clause-prims : goal.returns-in-Some-clause-prims
returns-in-Some-clause-prims c =
    c.loop-i.invariant ∙ fan-set-up c.args.rules.now c.args.kind c.args.size c.args.polygon.now c.loop-i.i (Some c.in-Some.prim) (omega arith) (sym c.setup.ensures.value ∙ c.in-Some.is)

pub loop-i-preserved : goal.loop-i-preserved
loop-i-preserved c =
    c.loop-i.invariant ∙ fan-set-up c.args.rules.now c.args.kind c.args.size c.args.polygon.now c.loop-i.i None (omega arith) (sym c.setup.ensures.value ∙ c.in_default.is)
