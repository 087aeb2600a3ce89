use Rattle.std.proofs.Common.{◌+◌, ◌*◌}
use Rattle.gl_records.specs.Tiles.{tiles_along}
use Rattle.whole_surface.specs.Parts.{AreDrawn}
use Rattle.whole_surface.specs.Items.{item_of}
use Rattle.whole_surface.proofs.items.draw_band.Given as goal

abbrev pub invariant-loop-column : goal.invariant-loop-column
invariant-loop-column l =
    AreDrawn (item_of l.paint) l.size (l.band * tiles_along l.size.w) (l.band * tiles_along l.size.w + l.column) l.fn.tiles l.tiles
