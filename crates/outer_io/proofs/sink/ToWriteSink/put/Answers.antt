use Rattle.std.proofs.Common.{arith}
use Rattle.outer_io.proofs.Puts.{puts_more}
use Rattle.outer_io.proofs.sink.ToWriteSink.put.Goals as goal

pub loop-rest-preserved : goal.loop-rest-preserved
loop-rest-preserved g c = record {
  taken =
      let before = c.loop-rest.invariant.taken in
      puts_more _ _ _ c.args.piece.now before.0 c.loop-rest.rest.now c.in-Ok.taken before.1 before.2 c.in-Ok.ensures.bytes;
  faults = omega arith;
}
