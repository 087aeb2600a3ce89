use Rattle.std.specs.Int.Count.{ones}
use Rattle.std.proofs.Common.{refl}
use Rattle.texel_sampler.proofs.linear.fraction.Goals as goal

pub masked-requires-clause-power : goal.masked-requires-clause-power
unfolding ones
masked-requires-clause-power c = refl
