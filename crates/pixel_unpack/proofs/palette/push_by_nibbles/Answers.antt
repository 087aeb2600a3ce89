use Rattle.std.proofs.Common.{ℕ, get_or, ap, ◌∙◌}
use Rattle.pixel_unpack.specs.Palette.{index_at}
use Rattle.pixel_unpack.proofs.Ranges.{row_more}
use Rattle.pixel_unpack.proofs.palette.push_by_nibbles.Goals as goal

pub loop-k-preserved : goal.loop-k-preserved
loop-k-preserved c =
    let named = λ (index : ℕ). get_or c.args.palette.now index 0 in
    let f = λ (k : ℕ). named (index_at 4 c.args.piece.now c.args.start k) in
    c.in_ok-push.ensures.items ∙ row_more f _ _ _ _ c.loop-k.invariant (ap named (c.from.ensures ∙ c.nibble_at-index.ensures.value))
