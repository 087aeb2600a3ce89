use Rattle.std.proofs.Common.{◌∙◌, Option, ap, subst, arith}
use Rattle.gl_records.specs.declared.version_id.VersionId.{VersionId}
use Rattle.texture_store.specs.Changes.{image_at}
use Rattle.texture_store.specs.Drops.{IsDropped}
use Rattle.texture_store.specs.Stored.{image_of_name, objects_of}
use Rattle.texture_store.proofs.Dropping.{bytes-without, kept_dropped, objects-without}
use Rattle.texture_store.proofs.Reading.{image_read}
use Rattle.texture_store.proofs.textures.Textures.drop_object.Goals as goal

pub overflow_sub-live : goal.overflow_sub-live
overflow_sub-live c =
    let s = c.args.self.now in
    let size = c.bytes_of.ensures (image_of_name s c.args.name) (ap (image_at c.args.images.now) c.requires.version ∙ (image_read s c.args.images.now c.args.name c.live.ensures.kept c.requires.of).reads) in
    omega (arith, size, bytes-without s c.args.name c.requires.name, c.live.ensures.value)

pub forget-requires-clause-kept : goal.forget-requires-clause-kept
forget-requires-clause-kept c =
    kept_dropped c.args.self.now c.args.images.now c.leave.new.images c.args.name c.requires.name c.requires.of c.live.ensures.kept
    (subst (λ (v : Option VersionId). IsDropped c.args.images.now c.leave.new.images v) c.requires.version c.leave.ensures)

pub forget-requires-clause-live : goal.forget-requires-clause-live
forget-requires-clause-live c =
    let s = c.args.self.now in
    let size = c.bytes_of.ensures (image_of_name s c.args.name) (ap (image_at c.args.images.now) c.requires.version ∙ (image_read s c.args.images.now c.args.name c.live.ensures.kept c.requires.of).reads) in
    omega (arith, size, bytes-without s c.args.name c.requires.name, c.live.ensures.value)

pub returns-clause-objects : goal.returns-clause-objects
returns-clause-objects c = ap objects_of c.forget.ensures ∙ objects-without c.args.self.now c.args.name
