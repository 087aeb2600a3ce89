use Rattle.std.proofs.Common.{sym}
use Rattle.trace_reader.specs.Trace.{trace_of}
use Rattle.trace_cases.proofs.Statuses.{answered}
use Rattle.trace_cases.proofs.play.play_bytes.Goals as goal

pub returns-in-Ok-clause-status : goal.returns-in-Ok-clause-status
returns-in-Ok-clause-status g c = rw (sym c.new-trace.ensures) (answered (trace_of c.new-trace.result) c.in-Ok.status _ c.in-Ok.ensures.outcome)
