use Rattle.std.proofs.Common.{◌*◌}
use Rattle.texture_env.specs.Lines.{AreLinesOf}
use Rattle.texture_env.specs.Shaders.{primitive_on}
use Rattle.whole_surface.specs.Parts.{IsSpan}
use Rattle.whole_surface.specs.Subjects.{step_on}
use Rattle.whole_surface.proofs.painting.paint_rows.Given as goal

abbrev pub invariant-loop-r : goal.invariant-loop-r
invariant-loop-r g l = record {
  span : IsSpan (step_on (g.B.Brush.on l.brush)) 0 (16 * l.r) l.fn.tile l.tile;
  lines : AreLinesOf (primitive_on (g.B.Brush.on l.brush)) l.lines;
}
