use Rattle.std.proofs.Common.{◌+◌, ◌*◌}
use Rattle.whole_surface.specs.Paints.{wiped}
use Rattle.whole_surface.specs.Parts.{IsSpan}
use Rattle.whole_surface.proofs.wipe.Wipe.wipe_row.Given as goal

abbrev pub invariant-loop-i : goal.invariant-loop-i
invariant-loop-i l = IsSpan (λ k pixel. wiped l.self pixel) (16 * l.row) (16 * l.row + l.i) l.fn.tile l.tile
