use Rattle.std.proofs.Common.{ℕ, Some, sym, subst, refl, ◌∙◌}
use Rattle.slab.specs.Slab.{Updates}
use Rattle.texture_ghosts.proofs.Slots.{fresh_idle, kept-idle, unpinned_idle}
use Rattle.texture_ghosts.proofs.images.Images.exchange.Goals as goal

pub invariant_of-self : goal.invariant_of-self
invariant_of-self c =
    let place = c.insert_reserved.ensures.key ∙ c.remove-old.ensures.key_is_next in
    let put = subst (λ (key : ℕ). Updates c.remove-old.new.self c.insert_reserved.new.self key (Some c.new.result)) place c.insert_reserved.ensures.updates in
    kept-idle c.args.v.0 c.insert_reserved.new.self.slots c.self.inside.held.slots c.self.inside.lent.value c.self.inside.held_bytes c.self.invariant
    (λ j other. put.others j other ∙ c.remove-old.ensures.updates.others j other)
    (unpinned_idle _ (rw (sym c.self.view_is) at c.requires.unpinned))
    (rw (put.changed, c.new.ensures) (fresh_idle c.args.set))
    (rw (put.changed, c.new.ensures) refl)
