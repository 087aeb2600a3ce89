-- The immediate renderer between two records: the front and the surface.
use Rattle.std.specs.Prelude.{◌≡◌, ℕ, Bool, true, false, List, []}
use Rattle.gl_records.specs.declared.rec.Rec.{Rec}
use Rattle.gl_records.specs.declared.size.Size.{Size}
use Rattle.gl_records.specs.Surface.{Surface, IsShaped}
use Rattle.output_format.specs.Frames.{frame}
use Rattle.trace_reader.specs.Reading.{index_after}
use Rattle.draw_front.specs.declared.step.Step.{Step}
use Rattle.draw_front.specs.declared.step.Step.TheVariants.{Present, Ended}
use Rattle.draw_front.specs.Collecting.{Collecting}
use Rattle.draw_front.specs.Playing.{Playing, ran}

-- what is played
abbrev pub playing : Collecting → Surface → Playing
playing front surface = record { size = front.size; context = front.context; surface = surface; index = front.index }

-- each item is drawn, and each line is put
pub record IsSettled (front : Collecting) (surface : Surface) : Type 0 where
  pub drawn : front.left ≡ []
  pub put : front.lines ≡ []
  pub shaped : IsShaped front.size surface

-- after a record; End is not counted
abbrev pub after_record : Playing → Rec → Playing
after_record now rec = record (ran now rec) { index = index_after now.index rec }

abbrev pub is_ended : Step → Bool
is_ended Ended = true
is_ended _ = false

-- what a step presents of a surface
abbrev pub presented : Size → Surface → ℕ → Step → List ℕ
presented size surface index Present = frame index size surface
presented size surface index _ = []
