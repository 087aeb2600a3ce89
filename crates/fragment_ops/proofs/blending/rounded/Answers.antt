use Rattle.std.proofs.Common.{◌∙◌}
use Rattle.fragment_ops.proofs.Clamped.{color}
use Rattle.fragment_ops.proofs.blending.rounded.Goals as goal

pub returns : goal.returns
returns c = rw c.quotients.ensures at c.clamped.ensures ∙ color c.args.sums c.requires.red c.requires.green c.requires.blue c.requires.alpha
