use Rattle.gl_records.specs.Captured.{captured_by}
use Rattle.whole_surface.proofs.TileLemmas.{all_drawn, drawn_as}
use Rattle.whole_surface.proofs.Unshaded.{step-captured}
use Rattle.whole_surface.proofs.items.draw_item.Goals as goal

pub returns-clause-drawn : goal.returns-clause-drawn
returns-clause-drawn c =
    let images = c.args.images.now in
    all_drawn (captured_by c.args.item.now images.first images.second) c.args.size _ _
    (drawn_as (step-captured c.args.item.now images) (rw c.of-paint.ensures at c.draw_bands.ensures))
