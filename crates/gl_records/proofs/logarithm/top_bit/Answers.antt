use Rattle.std.proofs.Common.{rules, arith}
use Rattle.gl_records.specs.TopBit.{top_bit}
use Rattle.gl_records.proofs.Logarithms.{top_bit-at_least, top_bit-next_above}
use Rattle.gl_records.proofs.logarithm.top_bit.Goals as goal

pub returns-clause-value : goal.returns-clause-value
unfolding top_bit
returns-clause-value c = search rules

pub returns-clause-at_least : goal.returns-clause-at_least
returns-clause-at_least c = λ some. rw (returns-clause-value c) (top_bit-at_least c.args.n some (omega arith))

pub returns-clause-below : goal.returns-clause-below
returns-clause-below c = rw (returns-clause-value c) (top_bit-next_above c.args.n (omega arith))
