use Rattle.std.proofs.Common.{◌≡◌, ◌∙◌, sym, true}
use Rattle.whole_surface.proofs.RowPaints.{paints_all, paints_asked}
use Rattle.whole_surface.proofs.asking.find_paints.Goals as goal

pub returns-then-keeps_unasked-clause-paints : goal.returns-then-keeps_unasked-clause-paints
returns-then-keeps_unasked-clause-paints g c =
    let keeps : g.B.Brush.keeps ≡ true = sym c.keeps_unasked.ensures ∙ c.if-keeps_unasked.true in
    let colors = c.find_colors.new.colors in
    paints_asked colors c.requires.bits c.asked_of-asked.ensures (rw c.requires.source at c.find_colors.ensures.colors) keeps

pub returns-else-keeps_unasked-clause-paints : goal.returns-else-keeps_unasked-clause-paints
returns-else-keeps_unasked-clause-paints g c =
    let colors = c.find_colors.new.colors in
    paints_all colors c.requires.bits c.asked_of-asked.ensures (rw c.requires.source at c.find_colors.ensures.colors)
