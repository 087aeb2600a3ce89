-- The trace format: every list of bytes has one outcome. Each condition that makes a trace malformed stands
-- in its place in the order; the first that holds decides.
use Rattle.std.specs.Prelude.{ℕ, zero, suc, ◌+◌, ◌^◌, Bool, true, false, not, ◌&&◌, ◌||◌, ◌==◌, nat_eq, nat_lt, nat_le, List, [], ◌∷◌, length, take, drop, Option, Some, None, Result, Ok, Err, if◌then◌else◌, codes}
use Rattle.std.specs.List.{starts_with}
use Rattle.gl_records.specs.declared.rec.Rec.{Rec}
use Rattle.gl_records.specs.declared.rec.Rec.TheVariants.{End}
use Rattle.gl_records.specs.declared.size.Size.{Size}
use Rattle.gl_records.specs.declared.size.TheConstants.{GREATEST_SIDE}
use Rattle.trace_reader.specs.declared.cause.Cause.{Cause}
use Rattle.trace_reader.specs.declared.cause.Cause.TheVariants.{Short, BadMagic, BadSize, NoEnd, BadZero, UnknownOp, TooLong, BadLength, Trailing}
use Rattle.trace_reader.specs.Numbers.{number_at}
use Rattle.trace_reader.specs.Command.{Layout}
use Rattle.trace_reader.specs.Shape.{allows}
use Rattle.trace_reader.specs.Table.{row, record_from}

-- where a trace is malformed: the whole records before that place, the bytes before it, and why
pub record Refusal : Type 0 where
  pub index : ℕ
  pub offset : ℕ
  pub cause : Cause

-- how the records of a trace end
pub data Ending : Type 0 where
  Ended : Ending
  Malformed : Refusal → Ending

-- the records from some place on, End left out, and how they end
pub record Tail : Type 0 where
  pub records : List Rec
  pub ending : Ending

-- what a list of bytes is
pub data Outcome : Type 0 where
  BadHeader : Cause → Outcome
  Readable : Size → Tail → Outcome

-- where the condition holds it decides, and else what comes later
abbrev pub refused_if : {A : Type 0} → Bool → Cause → Result A Cause → Result A Cause
refused_if true cause later = Err cause
refused_if false cause later = later

-- bytes of the greatest payload, and of the greatest trace
abbrev pub greatest_payload : ℕ
greatest_payload = 2 ^ 24

abbrev pub greatest_trace : ℕ
greatest_trace = 2 ^ 28

-- a side that a surface may have, in pixels
abbrev pub is_side : ℕ → Bool
is_side side = nat_le 1 side && nat_le side GREATEST_SIDE

-- the header: GLT1, the width and the height
abbrev pub header : List ℕ → Result Size Cause
header bytes =
    let width = number_at 2 4 bytes in
    let height = number_at 2 6 bytes in
    refused_if (nat_lt (length bytes) 8) Short (
    refused_if (not (starts_with nat_eq bytes (codes "GLT1"))) BadMagic (
    refused_if (not (is_side width && is_side height)) BadSize (
    Ok (record { w = width; h = height }))))

-- a record's first eight bytes
pub record Head : Type 0 where
  pub opcode : ℕ
  -- bytes of the payload
  pub length : ℕ

-- the opcode, a word that is 0, and the payload's length
abbrev pub head : List ℕ → Result Head Cause
head bytes =
    refused_if (length bytes == 0) NoEnd (
    refused_if (nat_lt (length bytes) 8) Short (
    refused_if (not (number_at 2 2 bytes == 0)) BadZero (
    Ok (record { opcode = number_at 2 0 bytes; length = number_at 4 4 bytes }))))

-- the record of a row of the table and how many bytes it takes, where `rest` follows its first eight
abbrev pub body : ℕ → ℕ → List ℕ → Option Layout → Result (Rec × ℕ) Cause
body offset len rest None = Err UnknownOp
body offset len rest (Some found) =
    refused_if (nat_lt greatest_payload len || nat_lt greatest_trace (offset + 8 + len)) TooLong (
    refused_if (not (allows found.0 len)) BadLength (
    refused_if (nat_lt (length rest) len) Short (
    Ok (record_from found (take len rest), 8 + len))))

-- the record that this head begins
abbrev pub record_of : ℕ → List ℕ → Result Head Cause → Result (Rec × ℕ) Cause
record_of offset rest (Err cause) = Err cause
record_of offset rest (Ok found) = body offset found.length rest (row found.opcode)

-- the record that the bytes begin with, and how many bytes it takes; offset bytes stand before it in the trace
abbrev pub record_at : ℕ → List ℕ → Result (Rec × ℕ) Cause
record_at offset bytes = record_of offset (drop 8 bytes) (head bytes)

abbrev pub is_end : Rec → Bool
is_end End = true
is_end _ = false

abbrev pub ended : Tail
ended = record { records = []; ending = Ended }

abbrev pub refused : ℕ → ℕ → Cause → Tail
refused index offset cause = record { records = []; ending = Malformed (record { index = index; offset = offset; cause = cause }) }

abbrev pub with_record : Rec → Tail → Tail
with_record first tail = record { records = first ∷ tail.records; ending = tail.ending }

-- what follows from the record at a place, where `later n` is what stands n bytes further on
abbrev pub after_record : ℕ → ℕ → List ℕ → Result (Rec × ℕ) Cause → (ℕ → Tail) → Tail
after_record index offset bytes (Err cause) later = refused index offset cause
after_record index offset bytes (Ok found) later =
    if is_end found.0 then
    (if length bytes == found.1 then ended else refused (index + 1) (offset + found.1) Trailing)
    else with_record found.0 (later found.1)

-- what the bytes are from a place on, with at most `most` records. A record takes eight bytes or more, so
-- as many as there are bytes are enough.
unfoldable pub tail_within : ℕ → ℕ → ℕ → List ℕ → Tail
tail_within zero index offset bytes = refused index offset NoEnd
tail_within (suc most) index offset bytes =
    after_record index offset bytes (record_at offset bytes) (λ n. tail_within most (index + 1) (offset + n) (drop n bytes))

-- what the bytes are from a place on, before which there are so many whole records and so many bytes
abbrev pub tail_at : ℕ → ℕ → List ℕ → Tail
tail_at index offset bytes = tail_within (length bytes) index offset bytes

abbrev pub after_header : List ℕ → Result Size Cause → Outcome
after_header bytes (Err cause) = BadHeader cause
after_header bytes (Ok size) = Readable size (tail_at 0 8 (drop 8 bytes))

-- the one outcome of a list of bytes
abbrev pub trace_of : List ℕ → Outcome
trace_of bytes = after_header bytes (header bytes)
