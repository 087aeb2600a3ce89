use Rattle.std.proofs.Common.{ℕ, min, max, sym, ap, ◌∙◌, arith}
use Rattle.pixel_unpack.proofs.Palettes.{halved-far}
use Rattle.pixel_unpack.proofs.levels.level_side.Goals as goal
use Rattle.pixel_unpack.proofs.levels.level_side.Goals.{then-level-lt16, else-level-lt16}

pub returns : goal.returns
returns c =
    let side = c.args.side in
    let bounded = λ (halved : ℕ). min side (max halved 1) in
    c.min.ensures ∙ ap (λ (m : ℕ). min side m) c.max.ensures ∙ ap bounded
    (elim c.if-level-lt16.branch [
      | then-level-lt16 w ↦ w.halved-is
      | else-level-lt16 w ↦ w.halved-is ∙ sym (halved-far side c.args.level (omega arith) (omega arith))
    ])
