use Rattle.std.proofs.Common.{◌∙◌, ◌-◌, ◌+◌, ◌/◌, ap, arith}
use Rattle.std.proofs.lemmas.Nat.{shl_whole}
use Rattle.texel_sampler.proofs.Leading.{leading-value}
use Rattle.texel_sampler.proofs.detail.leading.Goals as goal

pub returns-clause-value : goal.returns-clause-value
returns-clause-value c =
    ap (λ n. n / 36028797018963968) (shl_whole c.args.n (c.args.place + 1) (63 - c.args.place) 64 c.requires.below (omega arith))
    ∙ leading-value c.args.n c.args.place (63 - c.args.place) (omega arith) c.requires.at_least
