-- The immediate renderer: records in order, each item drawn wholly on a whole surface before the next.
use Rattle.std.specs.Prelude.{ℕ, ◌+◌, List, [], ◌∷◌, ◌++◌, length, option_to_list}
use Rattle.std.specs.List.{flat_map}
use Rattle.gl_records.specs.declared.rec.Rec.{Rec}
use Rattle.gl_records.specs.Captured.{Captured}
use Rattle.output_format.specs.Log.{last_line, refused_line}
use Rattle.trace_reader.specs.Trace.{Tail, Outcome, BadHeader, Readable, trace_of}
use Rattle.draw_front.specs.Call.{Called}
use Rattle.draw_front.specs.Playing.{Playing, opening, call, ran}

-- what records make, each in their order
pub record Results : Type 0 where
  pub chunks : List (List ℕ)
  pub lines : List (List ℕ)
  pub items : List Captured

abbrev pub then_results : Results → Results → Results
then_results first later = record {
  chunks = first.chunks ++ later.chunks;
  lines = first.lines ++ later.lines;
  items = first.items ++ later.items;
}

abbrev pub call_results : Called → Results
call_results done = record { chunks = option_to_list done.chunk; lines = done.lines; items = done.items }

-- what the records make, from here on
abbrev pub immediate : Playing → List Rec → Results
immediate now [] = record { chunks = []; lines = []; items = [] }
immediate now (rec ∷ recs) = then_results (call_results (call now rec)) (immediate (ran now rec) recs)

-- pieces, one after the other
abbrev pub joined : List (List ℕ) → List ℕ
joined pieces = flat_map (λ piece. piece) pieces

-- bytes for both outputs
pub record Output : Type 0 where
  pub frames : List ℕ
  pub log : List ℕ

-- what the rest of a trace makes, from here on: its chunks, and its lines with the last one
abbrev pub output_of_tail : Playing → Tail → Output
output_of_tail now tail = record {
  frames = joined (immediate now tail.records).chunks;
  log = joined (immediate now tail.records).lines ++ last_line (now.index + length tail.records) tail.ending;
}

-- what a trace makes; a malformed header makes its line alone
abbrev pub output_of_outcome : Outcome → Output
output_of_outcome (BadHeader cause) = record { frames = []; log = refused_line 0 0 cause }
output_of_outcome (Readable size tail) = output_of_tail (opening size) tail

-- what the immediate renderer writes for a list of bytes
abbrev pub frames_of : List ℕ → List ℕ
frames_of bytes = (output_of_outcome (trace_of bytes)).frames

abbrev pub log_of : List ℕ → List ℕ
log_of bytes = (output_of_outcome (trace_of bytes)).log
