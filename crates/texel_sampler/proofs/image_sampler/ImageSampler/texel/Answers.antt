use Rattle.texel_sampler.proofs.Choices.{HasLevels-chosen}
use Rattle.texel_sampler.proofs.image_sampler.ImageSampler.texel.Goals as goal

pub filter-requires : goal.filter-requires
filter-requires c =
    let image = c.self.inside in
    rw (c.choice.ensures, ← c.self.view_is) (HasLevels-chosen image.set.now image.sampler c.args.rho c.self.invariant.complete)
