use Rattle.std.proofs.Common.{sym}
use Rattle.texture_ghosts.proofs.Slots.{kept-idle, none_idle, unpinned_idle}
use Rattle.texture_ghosts.proofs.images.Images.remove.Goals as goal

pub invariant_of-self : goal.invariant_of-self
invariant_of-self c =
    kept-idle c.args.v.0 c.remove.new.self.slots c.self.inside.held.slots c.self.inside.lent.value c.self.inside.held_bytes c.self.invariant
    c.remove.ensures.updates.others
    (unpinned_idle _ (rw (sym c.self.view_is) at c.requires.unpinned))
    (rw c.remove.ensures.updates.changed none_idle)
    (rw c.remove.ensures.updates.changed tt)
