use Rattle.texture_env.specs.Lines.{AreLinesOf}
use Rattle.texture_env.proofs.lines.Lines.forget.Goals as goal

pub returns : goal.returns
unfolding AreLinesOf
returns c on = (c.forget.ensures on, c.forget-2.ensures on)
