use Rattle.std.proofs.lemmas.Result.{err_from_is_err_and}
use Rattle.draw_front.specs.Immediate.{frames_of, log_of}
use Rattle.output_format.proofs.Growth.{none_of_known}
use Rattle.immediate_renderer.proofs.Headers.{header_frames, header_log}
use Rattle.immediate_renderer.proofs.play_trace.play.Goals as goal

pub returns-in-Err-clause-frames : goal.returns-in-Err-clause-frames
returns-in-Err-clause-frames g c =
    header_frames (g.S.Source.rest c.args.trace.now) (g.S.Source.rest c.start.new.source) _ c.in-Err.end c.put_stop.result c.in-Err.ensures.trace c.put_stop.ensures.stops

pub returns-in-Err-clause-log : goal.returns-in-Err-clause-log
returns-in-Err-clause-log g c =
    header_log (g.S.Source.rest c.args.trace.now) (g.S.Source.rest c.start.new.source) _ _ c.in-Err.end c.put_stop.result c.in-Err.ensures.trace c.put_stop.ensures.stops c.put_stop.ensures.line

pub returns-in_err-player-clause-frames : goal.returns-in_err-player-clause-frames
returns-in_err-player-clause-frames g c =
    let p = err_from_is_err_and c.from_residual.result c.from_residual.ensures.1 in
    rw p.1 (none_of_known _ _ frames_of)

pub returns-in_err-player-clause-log : goal.returns-in_err-player-clause-log
returns-in_err-player-clause-log g c =
    let p = err_from_is_err_and c.from_residual.result c.from_residual.ensures.1 in
    rw p.1 (none_of_known _ _ log_of)
