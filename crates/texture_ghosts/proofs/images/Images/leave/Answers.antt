use Rattle.std.proofs.Common.{◌≡◌, ◌≤◌, ◌+◌, ℕ, true, Some, sym, subst, ap, ◌∙◌, arith}
use Rattle.slab.specs.Slab.{Updates}
use Rattle.gl_records.specs.ImageBytes.{image_bytes}
use Rattle.texture_ghosts.specs.Versions.{ghost_bytes, is_pinned, most_ghost_bytes}
use Rattle.texture_ghosts.proofs.Slots.{ghost_fits, kept-left}
use Rattle.texture_ghosts.proofs.images.Images.leave.Goals as goal

pub invariant_of-self : goal.invariant_of-self
invariant_of-self c =
    let version = c.remove-old.result in
    let place = c.insert_reserved.ensures.key ∙ c.remove-old.ensures.key_is_next in
    let put = subst (λ (key : ℕ). Updates c.remove-old.new.self c.insert_reserved.new.self key (Some c.left.result)) place c.insert_reserved.ensures.updates in
    let is_here = c.remove-old.ensures.value in
    let current : version.current ≡ true = rw is_here at (rw (sym c.self.view_is) at c.requires.allowed.0) in
    let pinned : is_pinned version ≡ true = rw is_here at (rw (sym c.self.view_is) at c.requires.pinned) in
    let fits = ghost_fits (ghost_bytes c.self.inside.held.slots) version pinned (rw is_here at (rw (sym c.self.view_is) at c.requires.allowed.1)) in
    let counts = c.self.invariant.counts in
    let fits_here : c.self.inside.held_bytes + image_bytes version.set ≤ most_ghost_bytes = omega (arith, counts, fits) in
    rw c.bytes.ensures
    (kept-left c.args.v.0 c.insert_reserved.new.self.slots c.self.inside.held.slots c.self.inside.lent.value c.self.inside.held_bytes version c.self.invariant
    (λ j other. put.others j other ∙ c.remove-old.ensures.updates.others j other)
    is_here (put.changed ∙ ap Some c.left.ensures) current pinned fits_here)
