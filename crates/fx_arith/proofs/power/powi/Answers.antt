use Rattle.std.proofs.Common.{◌∙◌, refl, ap, add-one}
use Rattle.fx_arith.specs.Number.{mul}
use Rattle.fx_arith.specs.Power.{power}
use Rattle.fx_arith.proofs.power.powi.Goals as goal

pub loop-init : goal.loop-init
unfolding power
loop-init c = refl

pub loop-preserved : goal.loop-preserved
unfolding power
loop-preserved c =
    let before = c.loop.invariant in
    rw add-one (c.mul-power.ensures ∙ ap (λ n. mul n c.args.b.0) before)
