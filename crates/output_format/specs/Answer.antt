-- What a run answers, and how its outputs grew.
use Rattle.std.specs.Prelude.{◌≡◌, ℕ, List, [], Option, Some, Result, Ok, Err}
use Rattle.std.specs.Io.KnownBytes.{Appends}
use Rattle.outer_io.specs.Bytes.{AppendsFront}
use Rattle.trace_reader.specs.declared.cause.ReadEnd.{ReadEnd}
use Rattle.trace_reader.specs.declared.cause.ReadEnd.TheVariants as read
use Rattle.trace_reader.specs.Trace.{Ending, Ended, Malformed, Outcome, BadHeader, Readable, trace_of}
use Rattle.output_format.specs.declared.fault.Fault.{Fault}
use Rattle.output_format.specs.declared.fault.Fault.TheVariants as fault
use Rattle.output_format.specs.declared.status.Status.{Status}
use Rattle.output_format.specs.Log.{refused_line}
use Rattle.output_format.specs.declared.status.Status.TheVariants.{Done, BadWords, Refused, NoMemory, ReadFault, WriteFault}

-- the exit status
abbrev pub number_of : Status → ℕ
number_of Done = 0
number_of BadWords = 2
number_of Refused = 3
number_of NoMemory = 5
number_of ReadFault = 6
number_of WriteFault = 7

-- the status of a trace that is played whole
abbrev pub status_of_ending : Ending → Status
status_of_ending Ended = Done
status_of_ending (Malformed at) = Refused

abbrev pub status_of_outcome : Outcome → Status
status_of_outcome (BadHeader cause) = Refused
status_of_outcome (Readable size tail) = status_of_ending tail.ending

abbrev pub status_of : List ℕ → Status
status_of bytes = status_of_outcome (trace_of bytes)

-- the answer is this one, unless it is a fault or want of memory
abbrev pub IsAnswer : Status → Status → Type 0
IsAnswer NoMemory expected = Unit {0}
IsAnswer ReadFault expected = Unit {0}
IsAnswer WriteFault expected = Unit {0}
IsAnswer status expected = status ≡ expected

-- an output grew by all of this, or after a fault or want of memory by a front of it
abbrev pub Grew : Status → Option (List ℕ) → Option (List ℕ) → List ℕ → Type 0
Grew NoMemory old new whole = AppendsFront old new whole
Grew ReadFault old new whole = AppendsFront old new whole
Grew WriteFault old new whole = AppendsFront old new whole
Grew status old new whole = Appends old new whole

-- the same of a step that answers a value or a fault
abbrev pub Puts : {A E : Type 0} → Result A E → Option (List ℕ) → Option (List ℕ) → List ℕ → Type 0
Puts (Ok value) old new whole = Appends old new whole
Puts (Err fault) old new whole = AppendsFront old new whole

-- a trace with this ending is answered so, unless a fault comes first; one with End was read whole
abbrev pub Plays : Ending → Result Status Fault → Option (List ℕ) → Type 0
Plays Ended (Ok status) left = (status ≡ Done) × (left ≡ Some [])
Plays (Malformed at) (Ok status) left = status ≡ Refused
Plays Ended (Err fault) left = Unit {0}
Plays (Malformed at) (Err fault) left = Unit {0}

abbrev pub PlaysOutcome : Outcome → Result Status Fault → Option (List ℕ) → Type 0
PlaysOutcome (BadHeader cause) (Ok status) left = status ≡ Refused
PlaysOutcome (BadHeader cause) (Err fault) left = Unit {0}
PlaysOutcome (Readable size tail) result left = Plays tail.ending result left

-- the line that is put where the reader answers no record; after a fault of the reader's there is none
abbrev pub stop_line : ReadEnd → List ℕ
stop_line (read.Malformed index offset cause) = refused_line index offset cause
stop_line read.ReadFault = []
stop_line read.NoMemory = []

-- what is answered there: Refused, unless the line's put fails, or the reader's fault
abbrev pub Stops : ReadEnd → Result Status Fault → Type 0
Stops (read.Malformed index offset cause) (Ok status) = status ≡ Refused
Stops (read.Malformed index offset cause) (Err fault) = Unit {0}
Stops read.ReadFault result = result ≡ Err fault.ReadFault
Stops read.NoMemory result = result ≡ Err fault.NoMemory
