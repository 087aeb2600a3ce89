-- The front, as its callers see it: the collecting side between two of its calls.
use Rattle.std.specs.Prelude.{ℕ, ◌+◌, Bool, false, List, [], ◌∷◌, ◌++◌, length, Option, Some, None}
use Rattle.gl_records.specs.declared.rec.Rec.{Rec}
use Rattle.gl_records.specs.declared.rec.Rec.TheVariants.{Swap, DrawArrays, DrawElements, Clear, End}
use Rattle.gl_records.specs.declared.size.Size.{Size}
use Rattle.gl_records.specs.Captured.{Captured}
use Rattle.gl_tokens.specs.declared.gl_error.GlError.{GlError}
use Rattle.output_format.specs.Log.{raise_line}
use Rattle.trace_reader.specs.Reading.{index_after}
use Rattle.draw_front.specs.declared.step.Step.{Step}
use Rattle.draw_front.specs.declared.step.Step.TheVariants.{Quiet, Items, Present, Ended}
use Rattle.draw_front.specs.Call.{Called, asked, with_error}
use Rattle.draw_front.specs.Context.{Context, opening_context}
use Rattle.draw_front.specs.Immediate.{joined}

pub record Collecting : Type 0 where
  pub size : Size
  pub context : Context
  -- the items still to come of the record in hand
  pub left : List Captured
  -- the bytes of the lines that wait, and how many lines they are
  pub lines : List ℕ
  pub line_count : ℕ
  -- the records that were run; End is none
  pub index : ℕ
  pub out_of_memory : Bool

-- before the first record
abbrev pub opening_front : Size → Collecting
opening_front size = record {
  size = size;
  context = opening_context size;
  left = [];
  lines = [];
  line_count = 0;
  index = 0;
  out_of_memory = false;
}

-- what the next record asks for
abbrev pub asked_of : Collecting → Rec → Called
asked_of now rec = asked now.size now.context now.index rec

-- lines behind those that wait
abbrev pub with_lines : Collecting → List (List ℕ) → Collecting
with_lines now lines = record now {
  lines = now.lines ++ joined lines;
  line_count = now.line_count + length lines;
}

-- a record with an error has its line and is counted, and the flag has the error if it had none; all else stays
abbrev pub with_refusal : Collecting → GlError → Collecting
with_refusal now error = record (with_lines now (raise_line now.index error ∷ [])) {
  context = with_error now.context error;
  index = now.index + 1;
}

-- after a call: its context, its items to come, its lines behind those that wait
abbrev pub after_call : Collecting → Called → Collecting
after_call now done = record (with_lines now done.lines) { context = done.context; left = done.items }

-- a record was run, unless it is End
abbrev pub counted : Collecting → Rec → Collecting
counted now rec = record now { index = index_after now.index rec }

abbrev pub stepped : Collecting → Rec → Collecting
stepped now rec = counted (after_call now (asked_of now rec)) rec

-- what a record without error answers
abbrev pub step_of : Rec → Step
step_of Swap = Present
step_of (DrawArrays mode first count) = Items
step_of (DrawElements mode count kind region offset) = Items
step_of (Clear mask) = Items
step_of End = Ended
step_of _ = Quiet

-- a record with an error answers Quiet
abbrev pub answer_of : Rec → Option GlError → Step
answer_of rec None = step_of rec
answer_of rec (Some error) = Quiet
