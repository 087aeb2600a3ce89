use Rattle.std.proofs.Common.{◌≡◌, ◌∙◌, ◌+◌, ◌≤◌, true, false, refl, sym, ap, arith}
use Rattle.std.proofs.lemmas.Result.{err_from_is_err_and}
use Rattle.trace_reader.specs.Trace.{is_end}
use Rattle.trace_reader.proofs.Outcomes.{is_end-end}
use Rattle.draw_front.specs.Playing.{Playing}
use Rattle.immediate_renderer.specs.Settled.{is_ended}
use Rattle.immediate_renderer.proofs.SoFar.{nothing_played, played_more, played_front, played_to_end, record_front, end_front, end_whole, end_frames, end_plays, stop_log}
use Rattle.immediate_renderer.proofs.Steps.{is_ended-other, counted-end, after_record-plain}
use Rattle.immediate_renderer.proofs.play_trace.play_records.Goals as goal

pub records-init : goal.records-init
records-init g c = record {
  reading = c.requires.reading;
  counted = c.requires.counted;
  settled = c.requires.settled;
  within = c.requires.within;
  played = nothing_played _ _ _ _ _;
  trace_faults = omega arith;
  frames_faults = omega arith;
  log_faults = omega arith;
}

pub returns-in-Err-clause-log : goal.returns-in-Err-clause-log
returns-in-Err-clause-log g c =
    stop_log _ _ c.next.new.self _ _ _ _ (g.S.Source.rest c.next.new.source) _ _ _ _ _ c.in-Err.end c.put_stop.result c.records.invariant.played
    (c.in-Err.ensures.trace c.records.invariant.reading) c.put_stop.ensures.line c.put_stop.ensures.stops

pub returns-in_err-run-clause-frames : goal.returns-in_err-run-clause-frames
returns-in_err-run-clause-frames g c =
    let p = err_from_is_err_and c.from_residual.result c.from_residual.ensures.1 in
    let run = c.in_err-run.ensures in
    let fronts = record_front _ _ c.next.new.self _ _ _ _ (g.S.Source.rest c.next.new.source) _ _ _ _ _ _ c.in-Ok.rec c.records.invariant.played (c.in-Ok.ensures.trace c.records.invariant.reading) run.chunk run.lines in
    rw p.1 fronts.0

pub returns-in_err-run-clause-log : goal.returns-in_err-run-clause-log
returns-in_err-run-clause-log g c =
    let p = err_from_is_err_and c.from_residual.result c.from_residual.ensures.1 in
    let run = c.in_err-run.ensures in
    let fronts = record_front _ _ c.next.new.self _ _ _ _ (g.S.Source.rest c.next.new.source) _ _ _ _ _ _ c.in-Ok.rec c.records.invariant.played (c.in-Ok.ensures.trace c.records.invariant.reading) run.chunk run.lines in
    rw p.1 fronts.1

pub returns-in_err-put_end-clause-frames : goal.returns-in_err-put_end-clause-frames
returns-in_err-put_end-clause-frames g c =
    let p = err_from_is_err_and c.from_residual-in_err-put_end.result c.from_residual-in_err-put_end.ensures.1 in
    let run = c.in_ok-run.ensures in
    let last : is_end c.in-Ok.rec ≡ true = sym run.ended ∙ ap is_ended c.in-Ended.is in
    let played = played_to_end _ _ _ _ _ _ _ _ _ _ _ _ c.in-Ok.rec c.records.invariant.played last run.chunk run.lines in
    let fronts = played_front _ _ _ _ _ _ _ _ _ _ played in
    rw p.1 fronts.0

pub returns-in_err-put_end-clause-log : goal.returns-in_err-put_end-clause-log
returns-in_err-put_end-clause-log g c =
    let p = err_from_is_err_and c.from_residual-in_err-put_end.result c.from_residual-in_err-put_end.ensures.1 in
    let run = c.in_ok-run.ensures in
    let last : is_end c.in-Ok.rec ≡ true = sym run.ended ∙ ap is_ended c.in-Ended.is in
    let played = played_to_end _ _ _ _ _ _ _ _ _ _ _ _ c.in-Ok.rec c.records.invariant.played last run.chunk run.lines in
    let trace = rw (is_end-end c.in-Ok.rec last) at (c.in-Ok.ensures.trace c.records.invariant.reading) in
    let count = c.index.ensures ∙ counted-end _ _ c.in-Ok.rec run.ran last in
    let line = rw count at c.in_err-put_end.ensures.line in
    rw p.1 (end_front _ _ c.next.new.self _ _ _ _ _ _ _ _ _ _ played trace line)

pub returns-in-Ended-clause-frames : goal.returns-in-Ended-clause-frames
returns-in-Ended-clause-frames g c =
    let run = c.in_ok-run.ensures in
    let last : is_end c.in-Ok.rec ≡ true = sym run.ended ∙ ap is_ended c.in-Ended.is in
    let played = played_to_end _ _ _ _ _ _ _ _ _ _ _ _ c.in-Ok.rec c.records.invariant.played last run.chunk run.lines in
    let trace = rw (is_end-end c.in-Ok.rec last) at (c.in-Ok.ensures.trace c.records.invariant.reading) in
    end_frames _ _ c.next.new.self _ _ _ _ _ _ _ _ _ played trace

pub returns-in-Ended-clause-ending : goal.returns-in-Ended-clause-ending
returns-in-Ended-clause-ending g c =
    let run = c.in_ok-run.ensures in
    let last : is_end c.in-Ok.rec ≡ true = sym run.ended ∙ ap is_ended c.in-Ended.is in
    let played = played_to_end _ _ _ _ _ _ _ _ _ _ _ _ c.in-Ok.rec c.records.invariant.played last run.chunk run.lines in
    let trace = rw (is_end-end c.in-Ok.rec last) at (c.in-Ok.ensures.trace c.records.invariant.reading) in
    end_plays _ _ c.next.new.self _ _ _ _ _ _ _ _ _ played trace

pub returns-in-Ended-clause-log : goal.returns-in-Ended-clause-log
returns-in-Ended-clause-log g c =
    let run = c.in_ok-run.ensures in
    let last : is_end c.in-Ok.rec ≡ true = sym run.ended ∙ ap is_ended c.in-Ended.is in
    let played = played_to_end _ _ _ _ _ _ _ _ _ _ _ _ c.in-Ok.rec c.records.invariant.played last run.chunk run.lines in
    let trace = rw (is_end-end c.in-Ok.rec last) at (c.in-Ok.ensures.trace c.records.invariant.reading) in
    let count = c.index.ensures ∙ counted-end _ _ c.in-Ok.rec run.ran last in
    let line = rw count at c.in_ok-put_end.ensures.line in
    end_whole _ _ c.next.new.self _ _ _ _ _ _ _ _ _ _ played trace line

pub records-preserved : goal.records-preserved
records-preserved g c =
    let run = c.in_ok-run.ensures in
    let other : is_end c.in-Ok.rec ≡ false = sym run.ended ∙ is_ended-other c.in_ok-run.field-0 c.in_default.not-Ended in
    let is = run.ran ∙ after_record-plain _ c.in-Ok.rec other in
    let counted : c.run.new.self.front.index ≡ c.records.player.front.index + 1 = ap (λ (p : Playing). p.index) is in
    let more : c.records.reader.offset + 8 ≤ c.next.new.self.offset = c.in-Ok.ensures.advances other in
    record {
      reading = c.in-Ok.ensures.stage ∙ rw other refl;
      counted = omega arith;
      settled = run.settled;
      within = c.in-Ok.ensures.within;
      played = rw is (played_more _ _ c.next.new.self _ _ _ _ _ _ _ _ _ _ _ _ c.records.invariant.played other (c.in-Ok.ensures.trace c.records.invariant.reading) run.chunk run.lines);
      trace_faults = omega arith;
      frames_faults = omega arith;
      log_faults = omega arith;
    }
