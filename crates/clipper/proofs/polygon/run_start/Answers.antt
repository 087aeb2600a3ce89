use Rattle.clipper.proofs.Rounds.{run-is}
use Rattle.std.proofs.Common.{arith}
use Rattle.clipper.proofs.polygon.run_start.Goals as goal

pub returns-clause-value : goal.returns-clause-value
returns-clause-value c =
    run-is c.args.plane c.args.corners.now c.loop-i.start record {
      within = omega arith;
      inner = λ k p q. c.loop-i.invariant.inner k p (omega arith);
      before = c.loop-i.invariant.before;
    }
