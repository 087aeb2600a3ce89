use Rattle.std.proofs.Common.{◌∙◌, ap, arith}
use Rattle.image_commands.proofs.Good.{good-bytes}
use Rattle.texture_store.specs.Changes.{image_at}
use Rattle.texture_store.proofs.change.plan.Goals as goal

pub overflow_cast-bytes : goal.overflow_cast-bytes
overflow_cast-bytes c =
    let image = c.get.result.now in
    let few = good-bytes image (c.requires.good image (ap (image_at c.args.images.now) c.in-Some.is ∙ c.get.ensures)) in
    omega (arith, few, c.bytes-bytes.ensures)
