-- What a record's step says of the record.
use Rattle.std.proofs.Common.{◌≡◌, ◌≢◌, ◌∙◌, ◌+◌, true, false, cond, Option, Some, None, refl, ap}
use Rattle.gl_records.specs.declared.rec.Rec.{Rec}
use Rattle.gl_records.specs.declared.rec.Rec.TheVariants.{End}
use Rattle.gl_tokens.specs.declared.gl_error.GlError.{GlError}
use Rattle.trace_reader.specs.Trace.{is_end}
use Rattle.draw_front.specs.declared.step.Step.{Step}
use Rattle.draw_front.specs.declared.step.Step.TheVariants.{Ended}
use Rattle.draw_front.specs.Collecting.{Collecting, answer_of, asked_of, step_of}
use Rattle.draw_front.specs.Playing.{Playing, ran}
use Rattle.immediate_renderer.specs.Settled.{is_ended, after_record}

-- a record ends the trace exactly where its step says so
ended-unless : (rec : Rec) (error : Option GlError) → is_ended (step_of rec) ≡ false → is_ended (answer_of rec error) ≡ false
ended-unless rec None is = is
ended-unless rec (Some error) is = refl

pub ended-answer : (now : Collecting) (rec : Rec) → is_ended (answer_of rec (asked_of now rec).error) ≡ is_end rec
ended-answer now End = refl
ended-answer now rec = ended-unless rec (asked_of now rec).error refl

pub is_ended-other : (step : Step) → step ≢ Ended → is_ended step ≡ false
is_ended-other Ended other = absurd (other refl)
is_ended-other _ other = refl

-- End is not counted
pub counted-end : (now next : Playing) (rec : Rec) → next ≡ after_record now rec → is_end rec ≡ true → next.index ≡ now.index
counted-end now next rec is last =
    ap (λ (p : Playing). p.index) is ∙ ap (λ b. cond b now.index (now.index + 1)) last

pub after_record-plain : (now : Playing) (rec : Rec) → is_end rec ≡ false → after_record now rec ≡ ran now rec
after_record-plain now rec plain = ap (λ b. let next : Playing = record (ran now rec) { index = cond b now.index (now.index + 1) } in next) plain
