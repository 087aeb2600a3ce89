use Rattle.texture_ghosts.proofs.Slots.{nothing_kept}
use Rattle.texture_ghosts.proofs.images.Images.new.Goals as goal

pub invariant_of-result : goal.invariant_of-result
invariant_of-result c = rw (c.new.ensures.empty, c.of.ensures, c.empty-lent.ensures) nothing_kept
