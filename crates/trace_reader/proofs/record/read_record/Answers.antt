use Rattle.trace_reader.proofs.Pieces.{record_read}
use Rattle.trace_reader.proofs.record.read_record.Goals as goal

pub returns-clause-record : goal.returns-clause-record
returns-clause-record g c = record_read _ _ _ c.args.offset c.in_ok-head.head c.read_body.result c.in_ok-head.ensures.head c.read_body.ensures.body
