use Rattle.std.proofs.Common.{◌≡◌, ◌∙◌, ap}
use Rattle.gl_records.specs.LevelChoice.{chosen}
use Rattle.gl_records.specs.Complete.{last_level}
use Rattle.texel_sampler.proofs.Choices.{HasLevels-chosen}
use Rattle.texel_sampler.proofs.sampling.texel.Goals as goal

pub filter-requires : goal.filter-requires
filter-requires c =
    let choice : c.choose.result ≡ chosen c.args.sampler (last_level c.args.set.now) c.args.rho =
    c.choose.ensures ∙ ap (λ last. chosen c.args.sampler last c.args.rho) c.last_level.ensures.value in
    rw choice (HasLevels-chosen c.args.set.now c.args.sampler c.args.rho c.requires)
