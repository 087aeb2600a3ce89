use Rattle.whole_surface.proofs.Bits.{none_behind}
use Rattle.whole_surface.proofs.row_sets.end_of.Goals as goal

pub returns-clause-none_behind : goal.returns-clause-none_behind
returns-clause-none_behind c i from = none_behind c.args.bits c.ilog2.result i c.ilog2.ensures.next_power_gt from
