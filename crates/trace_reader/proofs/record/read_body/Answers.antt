use Rattle.std.proofs.Common.{◌≡◌, min, length, None, sym, rules}
use Rattle.std.proofs.lemmas.Slice.{overwrites}
use Rattle.trace_reader.proofs.Bodies.{front_size, unknown_read, body_read, body_not_read, list_not_read}
use Rattle.trace_reader.proofs.record.read_body.Goals as goal

pub returns-in-Ok-with_piece-clause-body : goal.returns-in-Ok-with_piece-clause-body
returns-in-Ok-with_piece-clause-body g c =
    let least : c.min-first.result ≡ min c.args.head.length 64 = search rules in
    let size : length c.fill.new.into ≡ c.min-first.result = search rules in
    let read = body_read _ _ _ c.args.offset c.args.head c.min-first.result c.in_ok-whole.field-0 c.min-first.result c.fill.new.into _ c.read_u32_into.new.dst c.in-Ok.piece c.in-Some.shape c.in-Some.rec least size (search (rules, overwrites)) c.in_ok-whole.ensures.count c.in_ok-whole.ensures.bytes c.in_ok-whole.ensures.end (search rules) c.read_u32_into.ensures (sym c.in-Some.ensures.row) c.in-Some.ensures.short c.in-Ok.ensures.behind in
    rw c.in-Ok-with_piece.ensures.with read

pub returns-in-Err-with_piece-clause-body : goal.returns-in-Err-with_piece-clause-body
returns-in-Err-with_piece-clause-body g c =
    list_not_read _ None c.args.offset c.args.head c.read_u32_into.new.dst c.in-Some.shape c.in-Some.rec (sym c.in-Some.ensures.row) (c.in-Some.ensures.listed c.in-Err-with_piece.ensures.list)

pub returns-in-Err-clause-body : goal.returns-in-Err-clause-body
returns-in-Err-clause-body g c =
    let least : c.min-first.result ≡ min c.args.head.length 64 = search rules in
    let size : length c.fill.new.into ≡ c.min-first.result = search rules in
    body_not_read _ _ _ c.args.offset c.args.head c.min-first.result c.in_ok-whole.field-0 c.fill.new.into _ c.read_u32_into.new.dst c.in-Some.shape c.in-Some.rec c.in-Err.stop least size (search (rules, overwrites)) c.in_ok-whole.ensures.count c.in_ok-whole.ensures.bytes c.in_ok-whole.ensures.end (sym c.in-Some.ensures.row) c.in-Err.ensures.behind

pub returns-in-None-clause-body : goal.returns-in-None-clause-body
returns-in-None-clause-body g c = unknown_read _ None c.args.offset c.args.head c.read_u32_into.new.dst (sym c.in-None.ensures.row)

pub read_behind-requires-clause-front : goal.read_behind-requires-clause-front
read_behind-requires-clause-front g c =
    let least : c.min-first.result ≡ min c.args.head.length 64 = search rules in
    let size : length c.fill.new.into ≡ c.min-first.result = search rules in
    λ κs held. front_size c.args.head.length c.min-first.result _ c.fill.new.into (search (rules, overwrites)) size least
