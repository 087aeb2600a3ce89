use Rattle.std.proofs.Common.{◌≤◌, length, arith}
use Rattle.std.proofs.lemmas.List.{length-append, length-take-le}
use Rattle.trace_reader.proofs.Filled.{filled_more}
use Rattle.trace_reader.proofs.fill.fill.Goals as goal

pub loop-filled-preserved : goal.loop-filled-preserved
loop-filled-preserved g c =
    let within : c.loop-filled.filled ≤ length c.loop-filled.into = c.loop-filled.invariant.count in
    let some : c.in_ok-taken.taken ≤ length c.take.new.into = c.in_ok-taken.ensures.count in
    let front = length-take-le c.loop-filled.filled c.loop-filled.into within in
    record {
      count = simp length-append (omega arith);
      bytes = filled_more _ _ _ c.loop-filled.filled c.in_ok-taken.taken _ c.loop-filled.into c.take.new.into within some c.loop-filled.invariant.bytes c.in_ok-taken.ensures.bytes.0;
      faults = omega arith;
    }
