use Rattle.std.proofs.Common.{◌<◌, ◌^◌, arith}
use Rattle.texel_sampler.proofs.Runs.{set_below, set_from}
use Rattle.texel_sampler.proofs.bits.run_of.Goals as goal

pub returns-else-bits-eq0-clause-first : goal.returns-else-bits-eq0-clause-first
returns-else-bits-eq0-clause-first c i set =
    let fits : c.args.bits < 2 ^ 16 = omega (arith, c.ranges.bits) in
    set_from c.args.bits i (omega (arith, c.if-bits-eq0.false)) fits set

pub returns-else-bits-eq0-clause-last : goal.returns-else-bits-eq0-clause-last
returns-else-bits-eq0-clause-last c i set = set_below c.args.bits c.ilog2.result i c.ilog2.ensures.next_power_gt set
