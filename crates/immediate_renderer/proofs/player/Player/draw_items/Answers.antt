use Rattle.std.proofs.Common.{◌≡◌, ◌∙◌, List, [], ◌∷◌, refl, sym, ap, subst}
use Rattle.gl_records.specs.declared.size.Size.{Size}
use Rattle.gl_records.specs.Captured.{Captured, captured_by}
use Rattle.gl_records.specs.Surface.{IsShaped, drawn}
use Rattle.draw_front.specs.Collecting.{Collecting}
use Rattle.draw_front.specs.Draws.{captured_in, content_in}
use Rattle.draw_front.proofs.Fragments.{captured-content}
use Rattle.surface_tiles.proofs.Drawings.{drawn-nil, drawn-cons}
use Rattle.immediate_renderer.proofs.player.Player.draw_items.Goals as goal

pub items-preserved : goal.items-preserved
items-preserved g c =
    let surface = c.items.self.surface in
    let later = c.next_item.new.self.left in
    let textures = c.items.self.front.context.textures in
    let item = captured_in textures c.in-Some.item in
    let left : c.items.self.front.left ≡ item ∷ later = rw c.in-Some.is at c.in_ok-item.ensures.items in
    let others = c.in_ok-item.ensures.others in
    let of : Collecting → Size = λ (front : Collecting). front.size in
    let size : c.size-size.result ≡ c.next_item.new.self.size = c.size-size.ensures ∙ sym (ap of c.items.invariant.front) ∙ sym (ap of others) in
    let same : c.next_item.new.self.context.textures ≡ textures = ap (λ (front : Collecting). front.context.textures) others in
    let held = (λ i. captured_by c.in-Some.item (c.image-first.ensures i) (c.image-second.ensures i)) ∙ captured-content c.next_item.new.self.context.textures c.in-Some.item
    ∙ ap (λ t. captured_in t c.in-Some.item) same in
    record {
      rest = ap (drawn later) (c.draw.ensures.drawn ∙ ap (λ (x : Captured). drawn (x ∷ []) surface) held)
          ∙ sym (drawn-cons item later surface)
          ∙ ap (λ (items : List Captured). drawn items surface) (sym left)
          ∙ c.items.invariant.rest;
      front = others ∙ ap (λ (front : Collecting). let next : Collecting = record front { left = later } in next) c.items.invariant.front;
      shaped = subst (λ (size : Size). IsShaped size c.draw.new.self) size c.draw.ensures.shaped;
    }

pub returns-clause-drawn : goal.returns-clause-drawn
returns-clause-drawn g c =
    let surface = c.items.self.surface in
    let later : c.items.self.front.left ≡ c.next_item.new.self.left = rw c.in_default.is at c.in_ok-item.ensures.items in
    let end = rw c.in_default.is at c.in_ok-item.ensures.end in
    let none : c.items.self.front.left ≡ [] = later ∙ end refl in
    sym (drawn-nil surface) ∙ ap (λ (items : List Captured). drawn items surface) (sym none) ∙ c.items.invariant.rest
