use Rattle.std.proofs.Common.{ap, arith}
use Rattle.std.specs.Prelude.{unsigned_abs}
use Rattle.texel_sampler.proofs.Masks.{masked-value}
use Rattle.texel_sampler.proofs.wrapping.masked.Goals as goal

pub returns-clause-value : goal.returns-clause-value
returns-clause-value c =
    ap unsigned_abs (masked-value c.args.place c.from.result c.args.power c.requires.above (omega arith) c.requires.power c.ranges.place c.from.ensures)
