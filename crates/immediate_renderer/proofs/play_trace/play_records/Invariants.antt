use Rattle.std.proofs.Common.{◌≡◌, ◌≤◌, ◌*◌, ◌^◌, ◌-◌}
use Rattle.trace_reader.specs.declared.stage.Stage.TheVariants.{Reading}
use Rattle.immediate_renderer.specs.Settled.{IsSettled, playing}
use Rattle.immediate_renderer.proofs.SoFar.{IsPlayed}
use Rattle.immediate_renderer.proofs.play_trace.play_records.Given as goal

abbrev pub invariant-records : goal.invariant-records
invariant-records g l = record {
  reading : l.reader.stage ≡ Reading;
  counted : 8 * l.player.front.index ≤ l.reader.offset;
  settled : IsSettled l.player.front l.player.surface;
  within : l.reader.offset ≤ 2 ^ 28;
  played : IsPlayed l.initial.reader l.reader (playing l.initial.player.front l.initial.player.surface) (playing l.player.front l.player.surface) (g.S.Source.rest l.initial.trace) (g.S.Source.rest l.trace) (g.F.Sink.held l.initial.frames) (g.F.Sink.held l.frames) (g.L.Sink.held l.initial.log) (g.L.Sink.held l.log);
  trace_faults : g.S.Source.faults l.initial.trace ≤ g.S.Source.faults l.trace;
  frames_faults : g.F.Sink.faults l.initial.frames ≤ g.F.Sink.faults l.frames;
  log_faults : g.L.Sink.faults l.initial.log ≤ g.L.Sink.faults l.log;
}

abbrev pub decreases-records : goal.decreases-records
decreases-records g l = 2 ^ 28 - l.reader.offset
