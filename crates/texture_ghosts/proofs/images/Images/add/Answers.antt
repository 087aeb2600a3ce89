use Rattle.std.proofs.Common.{List, Option, sym, ap, subst, refl, ◌∙◌}
use Rattle.texture_ghosts.specs.Versions.{Version, IsKept, ghost_bytes}
use Rattle.texture_ghosts.proofs.Slots.{fresh_idle, ghosts-idle, kept-idle, none_idle}
use Rattle.texture_ghosts.proofs.images.Images.add.Goals as goal

pub invariant_of-self-2 : goal.invariant_of-self-2
invariant_of-self-2 c =
    let slots = ap (λ s. s.slots) c.in_ok-reserve.ensures.rest_kept in
    let kept = subst (λ (xs : List (Option Version)). IsKept xs c.self.inside.lent.value c.self.inside.held_bytes) (sym slots) c.self.invariant in
    kept-idle c.insert_reserved.result c.insert_reserved.new.self.slots c.reserve.new.self.slots c.self.inside.lent.value c.self.inside.held_bytes kept
    c.insert_reserved.ensures.updates.others
    (rw c.insert_reserved.ensures.was_vacant none_idle)
    (rw (c.insert_reserved.ensures.updates.changed, c.new.ensures) (fresh_idle c.args.set))
    (rw (c.insert_reserved.ensures.updates.changed, c.new.ensures) refl)

pub returns-clause-bytes : goal.returns-clause-bytes
returns-clause-bytes c =
    let slots = ap (λ s. s.slots) c.in_ok-reserve.ensures.rest_kept in
    ghosts-idle c.insert_reserved.result c.insert_reserved.new.self.slots c.reserve.new.self.slots
    c.insert_reserved.ensures.updates.others
    (rw c.insert_reserved.ensures.was_vacant none_idle)
    (rw (c.insert_reserved.ensures.updates.changed, c.new.ensures) (fresh_idle c.args.set))
    ∙ ap ghost_bytes slots ∙ ap (λ s. ghost_bytes s.slots) c.self.view_is
