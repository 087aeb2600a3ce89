use Rattle.std.proofs.Common.{◌∙◌, Option, sym, ap, arith}
use Rattle.std.specs.Option.{unwrap_or}
use Rattle.gl_records.specs.ImageBytes.{empty_image, image_bytes}
use Rattle.gl_records.specs.declared.level.ImageSet.{ImageSet}
use Rattle.image_commands.proofs.Good.{good-bytes}
use Rattle.texture_store.specs.Changes.{image_at}
use Rattle.texture_store.proofs.Keeping.{empty_bytes}
use Rattle.texture_store.proofs.deletion.bytes_of.Goals as goal

pub overflow_cast-result : goal.overflow_cast-result
overflow_cast-result c =
    let image = c.get.result.now in
    let few = good-bytes image (c.requires.good image (ap (image_at c.args.images.now) c.in-Some.is ∙ c.get.ensures)) in
    omega (arith, few, c.bytes.ensures)

pub returns-in-None : goal.returns-in-None
returns-in-None c = λ image is.
    sym empty_bytes
    ∙ ap (λ (o : Option ImageSet). image_bytes (unwrap_or o empty_image)) (ap (image_at c.args.images.now) (sym c.in-None.is) ∙ is)
