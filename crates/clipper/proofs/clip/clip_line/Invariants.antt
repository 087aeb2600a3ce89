use Rattle.std.proofs.Common.{◌≡◌, take, Some}
use Rattle.clipper.specs.Segment.{clipped_segment}
use Rattle.clipper.proofs.clip.clip_line.Given as goal

abbrev pub invariant-loop-side : goal.invariant-loop-side
invariant-loop-side l = clipped_segment l.v (take l.side-index l.side-items) ≡ Some l.ends
