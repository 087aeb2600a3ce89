use Rattle.std.proofs.Common.{arith}
use Rattle.gl_records.proofs.Logarithms.{top_bit-below}
use Rattle.gl_records.proofs.complete.last_of.Goals as goal

pub returns-clause-bound : goal.returns-clause-bound
returns-clause-bound c = rw c.top_bit.ensures.value (top_bit-below _ 16 (omega arith) (omega arith) (omega arith))
