use Rattle.std.proofs.Common.{◌*◌}
use Rattle.gl_records.specs.Captured.{Clear}
use Rattle.whole_surface.specs.Parts.{IsSpan, tile_step}
use Rattle.whole_surface.proofs.clear.clear_rows.Given as goal

abbrev pub invariant-loop-r : goal.invariant-loop-r
invariant-loop-r l = IsSpan (tile_step (Clear l.clear) l.rect) (0) (16 * l.r) l.fn.tile l.tile
