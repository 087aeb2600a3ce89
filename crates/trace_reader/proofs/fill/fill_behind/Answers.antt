use Rattle.std.proofs.Common.{rules}
use Rattle.trace_reader.proofs.Filled.{filled_behind}
use Rattle.trace_reader.proofs.fill.fill_behind.Goals as goal

pub returns-clause-bytes : goal.returns-clause-bytes
returns-clause-bytes g c = filled_behind _ _ c.args.front.now c.copy_from_slice.new.self c.args.into.now c.fill.new.into c.in_ok-taken.taken _ _ c.copy_from_slice.ensures.after c.requires (search rules) (search rules) (search rules) c.in_ok-taken.ensures.count c.in_ok-taken.ensures.bytes c.in_ok-taken.ensures.end
