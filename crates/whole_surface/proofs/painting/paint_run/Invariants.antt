use Rattle.std.proofs.Common.{◌+◌, ◌*◌}
use Rattle.whole_surface.specs.Parts.{IsSpan}
use Rattle.whole_surface.specs.Subjects.{step_on}
use Rattle.whole_surface.proofs.painting.paint_run.Given as goal

abbrev pub invariant-loop-i : goal.invariant-loop-i
invariant-loop-i g l = IsSpan (step_on (g.B.Brush.on l.brush)) (16 * l.r + l.first) (16 * l.r + l.i) l.fn.tile l.tile
