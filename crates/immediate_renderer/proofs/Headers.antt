-- A trace whose header is refused: its line alone is put.
use Rattle.std.proofs.Common.{◌≡◌, ◌∙◌, ℕ, List, [], Option, Some, None, IfSome, Result, Ok, Err, sym, ap, subst}
use Rattle.std.specs.Io.KnownBytes.{Appends}
use Rattle.std.proofs.KnownBytes.{Appends-nil}
use Rattle.outer_io.specs.Bytes.{AppendsFront}
use Rattle.output_format.specs.Answer.{Puts, Stops, stop_line}
use Rattle.output_format.specs.Log.{refused_line}
use Rattle.output_format.specs.declared.fault.Fault.{Fault}
use Rattle.output_format.specs.declared.status.Status.{Status}
use Rattle.output_format.proofs.Growth.{front_none, front_goes_on}
use Rattle.trace_reader.specs.declared.cause.Cause.{Cause}
use Rattle.trace_reader.specs.declared.cause.ReadEnd.{ReadEnd}
use Rattle.trace_reader.specs.declared.cause.ReadEnd.TheVariants.{Malformed, ReadFault, NoMemory}
use Rattle.trace_reader.specs.Reading.{Starts}
use Rattle.trace_reader.specs.Trace.{Outcome}
use Rattle.draw_front.specs.Immediate.{frames_of, log_of, output_of_outcome}

pub header_frames : (known left f : Option (List ℕ)) (end : ReadEnd) (result : Result Status Fault) → IfSome known (λ bytes. Starts bytes (Err end) left) → Stops end result
    → IfSome known (λ bytes. Puts result f f (frames_of bytes))
header_frames None left f end result starts stops = tt
header_frames (Some bytes) left f (Malformed index offset cause) (Ok status) starts stops =
    let whole : frames_of bytes ≡ [] = ap (λ (outcome : Outcome). (output_of_outcome outcome).frames) starts.0 in
    subst (Appends f f) (sym whole) (Appends-nil f)
header_frames (Some bytes) left f (Malformed index offset cause) (Err fault) starts stops = front_none f (frames_of bytes)
header_frames (Some bytes) left f ReadFault (Ok status) starts stops = absurd cc
header_frames (Some bytes) left f ReadFault (Err fault) starts stops = front_none f (frames_of bytes)
header_frames (Some bytes) left f NoMemory (Ok status) starts stops = absurd cc
header_frames (Some bytes) left f NoMemory (Err fault) starts stops = front_none f (frames_of bytes)

log_of-refused : (bytes : List ℕ) (index offset : ℕ) (cause : Cause) (left : Option (List ℕ)) → Starts bytes (Err (Malformed index offset cause)) left → log_of bytes ≡ refused_line index offset cause
log_of-refused bytes index offset cause left starts =
    ap (λ (outcome : Outcome). (output_of_outcome outcome).log) starts.0 ∙ ap (λ (n : ℕ). refused_line n 0 cause) (sym starts.1) ∙ ap (λ (n : ℕ). refused_line index n cause) (sym starts.2)

pub header_log : (known left l m : Option (List ℕ)) (end : ReadEnd) (result : Result Status Fault) → IfSome known (λ bytes. Starts bytes (Err end) left) → Stops end result → Puts result l m (stop_line end)
    → IfSome known (λ bytes. Puts result l m (log_of bytes))
header_log None left l m end result starts stops line = tt
header_log (Some bytes) left l m (Malformed index offset cause) (Ok status) starts stops line = subst (Appends l m) (sym (log_of-refused bytes index offset cause left starts)) line
header_log (Some bytes) left l m (Malformed index offset cause) (Err fault) starts stops line = subst (AppendsFront l m) (sym (log_of-refused bytes index offset cause left starts)) line
header_log (Some bytes) left l m ReadFault (Ok status) starts stops line = absurd cc
header_log (Some bytes) left l m ReadFault (Err fault) starts stops line = front_goes_on l m [] (log_of bytes) line
header_log (Some bytes) left l m NoMemory (Ok status) starts stops line = absurd cc
header_log (Some bytes) left l m NoMemory (Err fault) starts stops line = front_goes_on l m [] (log_of bytes) line
