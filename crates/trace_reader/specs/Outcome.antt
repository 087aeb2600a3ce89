-- The outcome of a list of bytes as a relation: which records the bytes are, one after the other, and how they
-- end. No number bounds how many there are.
use Rattle.std.specs.Prelude.{◌≡◌, ◌≢◌, ◌<◌, ◌⊎◌, ℕ, ◌+◌, List, [], ◌∷◌, length, drop, Ok, Err}
use Rattle.gl_records.specs.declared.rec.Rec.{Rec}
use Rattle.gl_records.specs.declared.rec.Rec.TheVariants.{End}
use Rattle.trace_reader.specs.declared.cause.Cause.TheVariants.{Trailing}
use Rattle.trace_reader.specs.Trace.{Refusal, Ending, Ended, Malformed, Outcome, BadHeader, Readable, header, record_at}

-- the record at this place is refused
abbrev pub IsRefusedHere : ℕ → ℕ → List ℕ → Refusal → Type 0
IsRefusedHere index offset bytes refusal =
    (record_at offset bytes ≡ Err refusal.cause) × (refusal.index ≡ index) × (refusal.offset ≡ offset)

-- the record at this place is End, and bytes follow it
abbrev pub IsTrailed : ℕ → ℕ → List ℕ → Refusal → Type 0
IsTrailed index offset bytes refusal =
    (n : ℕ) × (record_at offset bytes ≡ Ok (End, n)) × (n < length bytes)
    × (refusal.cause ≡ Trailing) × (refusal.index ≡ index + 1) × (refusal.offset ≡ offset + n)

-- no record but End is at this place: End takes all of the bytes, or they are malformed
abbrev pub IsEnding : ℕ → ℕ → List ℕ → Ending → Type 0
IsEnding index offset bytes Ended = record_at offset bytes ≡ Ok (End, length bytes)
IsEnding index offset bytes (Malformed refusal) = IsRefusedHere index offset bytes refusal ⊎ IsTrailed index offset bytes refusal

-- from this place on the bytes are these records and this ending; so many whole records and so many bytes stand
-- before it
abbrev pub IsTail : ℕ → ℕ → List ℕ → List Rec → Ending → Type 0
IsTail index offset bytes [] ending = IsEnding index offset bytes ending
IsTail index offset bytes (rec ∷ records) ending =
    (rec ≢ End) × ((n : ℕ) × (record_at offset bytes ≡ Ok (rec, n)) × IsTail (index + 1) (offset + n) (drop n bytes) records ending)

-- the header is refused, or it gives the size, and the records follow it
abbrev pub IsOutcome : List ℕ → Outcome → Type 0
IsOutcome bytes (BadHeader cause) = header bytes ≡ Err cause
IsOutcome bytes (Readable size tail) = (header bytes ≡ Ok size) × IsTail 0 8 (drop 8 bytes) tail.records tail.ending
