use Rattle.std.proofs.Common.{◌*◌}
use Rattle.gl_records.specs.Tiles.{tiles_along}
use Rattle.whole_surface.specs.Parts.{AreDrawn}
use Rattle.whole_surface.specs.Items.{item_of}
use Rattle.whole_surface.proofs.items.draw_bands.Given as goal

abbrev pub invariant-loop-band : goal.invariant-loop-band
invariant-loop-band l = AreDrawn (item_of l.paint) l.size 0 (l.band * tiles_along l.size.w) l.fn.tiles l.tiles
