-- A trace that is read record by record: what an answer says of what the trace still has.
use Rattle.std.specs.Prelude.{◌≡◌, ℕ, ◌+◌, true, List, [], drop, Option, Some, Result, Ok, Err, IsSomeAnd, IsOkAnd, if◌then◌else◌, MatchBool}
use Rattle.gl_records.specs.declared.rec.Rec.{Rec}
use Rattle.gl_records.specs.declared.size.Size.{Size}
use Rattle.trace_reader.specs.declared.cause.ReadEnd.{ReadEnd}
use Rattle.trace_reader.specs.declared.cause.ReadEnd.TheVariants.{Malformed, ReadFault, NoMemory}
use Rattle.trace_reader.specs.declared.stage.Stage.{Stage}
use Rattle.trace_reader.specs.declared.stage.Stage.TheVariants.{Reading, Ended, Stopped}
use Rattle.trace_reader.specs.Progress.{Progress}
use Rattle.trace_reader.specs.Trace.{Tail, BadHeader, Readable, trace_of, tail_at, head, record_at, ended, refused, with_record, is_end}
use Rattle.trace_reader.specs.Shape.{has_piece}
use Rattle.trace_reader.specs.Table.{row}

-- what the trace has from a reader's place on, where these bytes are left
abbrev pub tail_of : Progress → List ℕ → Tail
tail_of reader bytes = tail_at reader.index reader.offset bytes

-- `rec` was the first of what the trace had, and was taken: End stands alone, any other record before the rest
abbrev pub Takes : Tail → Rec → Option (List ℕ) → (List ℕ → Tail) → Type 0
Takes tail rec left later =
    MatchBool (is_end rec) ((tail ≡ ended) × (left ≡ Some [])) (IsSomeAnd left (λ rest. tail ≡ with_record rec (later rest)))

-- a fault and want of memory say nothing of the trace; else it ends here, malformed
abbrev pub EndsAt : Tail → ReadEnd → Type 0
EndsAt tail (Malformed index offset cause) = tail ≡ refused index offset cause
EndsAt tail ReadFault = Unit {0}
EndsAt tail NoMemory = Unit {0}

-- the opcode's command brings a piece
abbrev pub OpcodeBringsPiece : ℕ → Type 0
OpcodeBringsPiece opcode = IsSomeAnd (row opcode) (λ layout. has_piece layout.0 ≡ true)

-- the bytes begin with a record's first eight, and its command brings a piece
abbrev pub BringsPiece : List ℕ → Type 0
BringsPiece bytes = IsOkAnd (head bytes) (λ found. OpcodeBringsPiece found.opcode)

-- a reader of bytes answers the first record of what the trace has, or how it ends; `left` is what the source
-- has afterwards
abbrev pub Reads : Progress → List ℕ → Result Rec ReadEnd → Progress → Option (List ℕ) → Type 0
Reads old bytes (Ok rec) new left = Takes (tail_of old bytes) rec left (tail_of new)
Reads old bytes (Err end) new left = EndsAt (tail_of old bytes) end

-- the same of a record with the bytes that it takes, at a place
abbrev pub ReadsAt : ℕ → ℕ → List ℕ → Result (Rec × ℕ) ReadEnd → Option (List ℕ) → Type 0
ReadsAt index offset bytes (Ok found) left = Takes (tail_at index offset bytes) found.0 left (tail_at (index + 1) (offset + found.1))
ReadsAt index offset bytes (Err end) left = EndsAt (tail_at index offset bytes) end

-- of the header: the size and a reader of the rest, or the cause
abbrev pub Starts : List ℕ → Result (Progress × Size) ReadEnd → Option (List ℕ) → Type 0
Starts bytes (Ok begun) left = IsSomeAnd left (λ rest. trace_of bytes ≡ Readable begun.1 (tail_of begun.0 rest))
Starts bytes (Err (Malformed index offset cause)) left = (trace_of bytes ≡ BadHeader cause) × (index ≡ 0) × (offset ≡ 0)
Starts bytes (Err ReadFault) left = Unit {0}
Starts bytes (Err NoMemory) left = Unit {0}

-- these are the record at a place and the bytes that it takes, and the source has what is behind them
abbrev pub TakenAt : ℕ → List ℕ → Rec × ℕ → Option (List ℕ) → Type 0
TakenAt offset bytes found left = (record_at offset bytes ≡ Ok found) × (left ≡ Some (drop found.1 bytes))

-- a reader of bytes moved over the record at its place: from one offset to another, by the bytes that it takes
abbrev pub MovesOver : ℕ → List ℕ → Rec → ℕ → Option (List ℕ) → Type 0
MovesOver old bytes rec new left = (n : ℕ) × (new ≡ old + n) × TakenAt old bytes (rec, n) left

-- how many records a reader has counted after one more: End isn't one of them
abbrev pub index_after : ℕ → Rec → ℕ
index_after index rec = if is_end rec then index else index + 1

-- how a reader goes on after an answer
abbrev pub stage_after : Result Rec ReadEnd → Stage
stage_after (Ok rec) = if is_end rec then Ended else Reading
stage_after (Err end) = Stopped end
