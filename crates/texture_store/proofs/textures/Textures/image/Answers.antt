use Rattle.std.proofs.Common.{sym}
use Rattle.texture_store.specs.Stored.{objects_of}
use Rattle.texture_store.specs.Textures.{bound_texture}
use Rattle.texture_store.proofs.Reading.{bound_read, none_read, read_is}
use Rattle.texture_store.proofs.textures.Textures.image.Goals as goal

pub returns-in_default-clause-none : goal.returns-in_default-clause-none
returns-in_default-clause-none c _ =
    let s = c.args.self.now in
    let t = bound_texture (objects_of s) c.args.unit in
    let read = bound_read s c.args.images.now c.args.unit c.bound.result c.version.result c.bound.ensures.value c.version.ensures c.live-kept.ensures.kept c.requires.of in
    none_read c.args.images.now c.version.result t.image c.in_default.is read

pub returns-clause-image : goal.returns-clause-image
returns-clause-image c =
    let s = c.args.self.now in
    let t = bound_texture (objects_of s) c.args.unit in
    let read = bound_read s c.args.images.now c.args.unit c.bound.result c.version.result c.bound.ensures.value c.version.ensures c.live-kept.ensures.kept c.requires.of in
    sym (read_is c.args.images.now c.version.result c.in-Some.v t.image c.get.result.now c.in-Some.is read c.get.ensures)
