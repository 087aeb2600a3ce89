use Rattle.trace_reader.proofs.Tails.{is_end-other, record_answers, end_answers, trailing_answers, malformed_answers}
use Rattle.trace_reader.proofs.reader.read_at.Goals as goal

pub returns-in-Err-Malformed-clause-trace : goal.returns-in-Err-Malformed-clause-trace
returns-in-Err-Malformed-clause-trace g c =
    let read = rw c.in-Err-Malformed.field-0-is at c.in-Err-Malformed.ensures.record in
    malformed_answers _ (g.S.Source.rest c.read_record.new.source) c.args.index c.args.offset c.in-Err-Malformed.cause read

pub returns-then-branch-clause-trace : goal.returns-then-branch-clause-trace
returns-then-branch-clause-trace g c =
    let none = rw c.if-branch.true at c.in_ok-is_at_end-in-End.ensures.end in
    end_answers _ _ _ c.args.index c.args.offset c.in-Ok.found.0 c.in-Ok.found.1 c.in-End.is c.in-Ok.ensures.record none

pub returns-else-branch-clause-trace : goal.returns-else-branch-clause-trace
returns-else-branch-clause-trace g c =
    let some = rw c.if-branch.false at c.in_ok-is_at_end-in-End.ensures.end in
    trailing_answers _ _ c.args.index c.args.offset c.in-Ok.found.0 c.in-Ok.found.1 c.in-End.is c.in-Ok.ensures.record some

pub returns-in_default-clause-trace : goal.returns-in_default-clause-trace
returns-in_default-clause-trace g c = record_answers _ _ c.args.index c.args.offset c.in-Ok.found (is_end-other c.in-Ok.found.0 c.in_default.not-End) c.in-Ok.ensures.record
