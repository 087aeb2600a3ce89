use Rattle.whole_surface.proofs.RowPaints.{asked_after}
use Rattle.whole_surface.proofs.asking.asked_in.Goals as goal

pub loop-i-preserved : goal.loop-i-preserved
loop-i-preserved g c =
    let is = c.asked_after-asked.ensures in
    asked_after c.loop-i.asked c.asked_after-asked.result c.loop-i.i c.loop-i.invariant is.others is.here is.unasked
