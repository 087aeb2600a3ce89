use Rattle.std.proofs.Common.{◌≡◌, ◌≤◌, ◌*◌, length, take}
use Rattle.std.specs.Io.KnownBytes.{Appends}
use Rattle.gl_records.specs.Surface.{surface_bytes}
use Rattle.immediate_renderer.proofs.frame.put_rows.Given as goal

abbrev pub invariant-loop-y : goal.invariant-loop-y
invariant-loop-y g l = record {
  put : Appends (g.F.Sink.held l.initial.frames) (g.F.Sink.held l.frames) (surface_bytes (take l.y l.surface));
  faults : g.F.Sink.faults l.initial.frames ≤ g.F.Sink.faults l.frames;
  room : length l.bytes.items ≡ 4 * l.size.w;
}
