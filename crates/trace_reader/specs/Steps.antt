-- One record read from a source: what it is, or why there is none, by the bytes that the source had and has.
use Rattle.std.specs.Prelude.{◌≡◌, ◌≤◌, ◌<◌, ◌⊎◌, ℕ, ◌+◌, ◌-◌, ◌*◌, nat_lt, Bool, true, false, List, ◌++◌, length, take, drop, Option, Some, Result, Ok, Err, if◌then◌else◌}
use Rattle.gl_records.specs.declared.rec.Rec.{Rec}
use Rattle.trace_reader.specs.declared.cause.Cause.TheVariants.{Short, TooLong, BadLength}
use Rattle.trace_reader.specs.declared.record.Head.{Head}
use Rattle.trace_reader.specs.declared.record.Stop.{Stop}
use Rattle.trace_reader.specs.declared.record.Stop.TheVariants.{Malformed, Failed, NoMemory}
use Rattle.trace_reader.specs.declared.shape.Shape.{Shape}
use Rattle.trace_reader.specs.Reading.{OpcodeBringsPiece, BringsPiece}
use Rattle.trace_reader.specs.Shape.{words_of, has_piece, allows}
use Rattle.trace_reader.specs.Trace as trace

abbrev pub head_of : Head → trace.Head
head_of head = record { opcode = head.opcode; length = head.length }

abbrev pub HeadRead : List ℕ → Result Head Stop → Option (List ℕ) → Type 0
HeadRead bytes (Ok found) left = (trace.head bytes ≡ Ok (head_of found)) × (left ≡ Some (drop 8 bytes))
HeadRead bytes (Err (Malformed cause)) left = trace.head bytes ≡ Err cause
HeadRead bytes (Err Failed) left = Unit {0}
HeadRead bytes (Err NoMemory) left = ⊥

abbrev pub BodyRead : ℕ → Head → List ℕ → Result (Rec × ℕ) Stop → Option (List ℕ) → Type 0
BodyRead offset head rest (Ok found) left =
    (trace.record_of offset rest (Ok (head_of head)) ≡ Ok found) × (found.1 ≡ 8 + head.length) × (left ≡ Some (drop head.length rest))
BodyRead offset head rest (Err (Malformed cause)) left = trace.record_of offset rest (Ok (head_of head)) ≡ Err cause
BodyRead offset head rest (Err Failed) left = Unit {0}
BodyRead offset head rest (Err NoMemory) left = OpcodeBringsPiece head.opcode

abbrev pub RecordRead : ℕ → List ℕ → Result (Rec × ℕ) Stop → Option (List ℕ) → Type 0
RecordRead offset bytes (Ok found) left = (trace.record_at offset bytes ≡ Ok found) × (left ≡ Some (drop found.1 bytes))
RecordRead offset bytes (Err (Malformed cause)) left = trace.record_at offset bytes ≡ Err cause
RecordRead offset bytes (Err Failed) left = Unit {0}
RecordRead offset bytes (Err NoMemory) left = BringsPiece bytes

-- the conditions on a payload's length, in their order
abbrev pub length_checked : ℕ → ℕ → Shape → Result (Unit {0}) Stop
length_checked offset len shape =
    if nat_lt trace.greatest_payload len then Err (Malformed TooLong) else
    if nat_lt trace.greatest_trace (offset + 8 + len) then Err (Malformed TooLong) else
    if allows shape len then Ok tt else Err (Malformed BadLength)

-- these bytes, and as many of the source's behind them as there is room for, where it has them
abbrev pub FilledBehind : List ℕ → List ℕ → Bool → List ℕ → Option (List ℕ) → Type 0
FilledBehind front into true rest left =
    let more = length into - length front in
    (more ≤ length rest) × (into ≡ front ++ take more rest) × (left ≡ Some (drop more rest))
FilledBehind front into false rest left = length rest < length into - length front

-- so many bytes, of which these were read already
abbrev pub PieceRead : ℕ → List ℕ → List ℕ → Result (List ℕ) Stop → Option (List ℕ) → Type 0
PieceRead len front rest (Ok found) left =
    (len ≤ length front + length rest) × (found ≡ front ++ take (len - length front) rest) × (left ≡ Some (drop (len - length front) rest))
PieceRead len front rest (Err (Malformed cause)) left = (length front + length rest < len) × (cause ≡ Short)
PieceRead len front rest (Err Failed) left = Unit {0}
PieceRead len front rest (Err NoMemory) left = 0 < len

-- what is behind a payload's words, where its first bytes were read already, if the source had them
abbrev pub BehindRead : ℕ → ℕ → Shape → List ℕ → Bool → List ℕ → Result (List ℕ) Stop → Option (List ℕ) → Type 0
BehindRead offset len shape front whole rest (Ok found) left =
    (length_checked offset len shape ≡ Ok tt) × (whole ≡ true)
    × PieceRead (len - 4 * words_of shape) (drop (4 * words_of shape) front) rest (Ok found) left
BehindRead offset len shape front whole rest (Err (Malformed cause)) left =
    (length_checked offset len shape ≡ Err (Malformed cause))
    ⊎ ((length_checked offset len shape ≡ Ok tt) × (cause ≡ Short) × (whole ≡ true → length front + length rest < len))
BehindRead offset len shape front whole rest (Err Failed) left = Unit {0}
BehindRead offset len shape front whole rest (Err NoMemory) left = has_piece shape ≡ true
