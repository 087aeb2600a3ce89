use Rattle.std.proofs.Common.{ℕ, ◌∙◌}
use Rattle.pixel_unpack.proofs.Ranges.{row_more}
use Rattle.pixel_unpack.proofs.layout.push_row.Goals as goal

pub loop-x-preserved : goal.loop-x-preserved
loop-x-preserved g c =
    let f = λ (x : ℕ). g.L.Layout.texel c.args.piece.now c.args.start x in
    c.in_ok-push.ensures.items ∙ row_more f _ _ _ _ c.loop-x.invariant c.read.ensures
