use Rattle.std.proofs.Common.{◌∷◌, []}
use Rattle.texel_sampler.specs.FourTexels.{byte_of}
use Rattle.texel_sampler.proofs.Weighted.{at-once}
use Rattle.texel_sampler.proofs.lanes.weighted.Goals as goal

pub returns : goal.returns
returns c =
    let a = c.args.a in
    let b = c.args.b in
    let red = at-once a b (byte_of c.args.low_low 0) (byte_of c.args.high_low 0) (byte_of c.args.low_high 0) (byte_of c.args.high_high 0) in
    let green = at-once a b (byte_of c.args.low_low 1) (byte_of c.args.high_low 1) (byte_of c.args.low_high 1) (byte_of c.args.high_high 1) in
    let blue = at-once a b (byte_of c.args.low_low 2) (byte_of c.args.high_low 2) (byte_of c.args.low_high 2) (byte_of c.args.high_high 2) in
    let alpha = at-once a b (byte_of c.args.low_low 3) (byte_of c.args.high_low 3) (byte_of c.args.low_high 3) (byte_of c.args.high_high 3) in
    rw (c.mean_of.ensures, c.across.ensures.value, c.across-2.ensures.value) (λ i. red i ∷ green i ∷ blue i ∷ alpha i ∷ [])
