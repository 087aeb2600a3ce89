use Rattle.std.proofs.Common.{arith, sym, ◌∙◌}
use Rattle.clipper.proofs.Rounds.{first-is, some-out}
use Rattle.clipper.proofs.polygon.first_out.Goals as goal

pub returns-then-goes_out-clause-value : goal.returns-then-goes_out-clause-value
returns-then-goes_out-clause-value c =
    first-is c.args.plane c.args.corners.now c.loop-i.i (omega arith) c.loop-i.invariant (sym c.goes_out.ensures ∙ c.if-goes_out.true)

pub returns : goal.returns
returns c = absurd (some-out c.args.plane c.args.corners.now c.requires (λ k h. c.loop-i.invariant k (omega arith)))
