use Rattle.trace_reader.proofs.Outcomes.{trace_of-is, trace_of-only}
use Rattle.trace_reader.proofs.laws.one_outcome.Goals as goal

pub returns-clause-some : goal.returns-clause-some
returns-clause-some c = trace_of-is

pub returns-clause-only : goal.returns-clause-only
returns-clause-only c = trace_of-only
