use Rattle.std.proofs.Common.{◌∙◌, sym, ap}
use Rattle.gl_records.specs.Complete.{is_complete}
use Rattle.texture_store.specs.Answers.{format_of}
use Rattle.texture_store.specs.Stored.{objects_of}
use Rattle.texture_store.specs.Textures.{bound_texture}
use Rattle.texture_store.proofs.Reading.{bound_read, complete_is, empty-incomplete, formatless-incomplete, none_read, none_where, read_is, some_where, version_read}
use Rattle.texture_store.proofs.textures.Textures.unit_image.Goals as goal

pub returns-in_default-clause-none : goal.returns-in_default-clause-none
returns-in_default-clause-none c =
    let s = c.args.self.now in
    let t = bound_texture (objects_of s) c.args.unit in
    let read = bound_read s c.args.images.now c.args.unit c.bound.result c.version.result c.bound.ensures.value c.version.ensures c.live-kept.ensures.kept c.requires.of in
    let empty = none_read c.args.images.now c.version.result t.image c.in_default.is read in
    none_where (is_complete t.image t.parameters.sampler) (ap (λ image. is_complete image t.parameters.sampler) empty ∙ empty-incomplete t.parameters.sampler)

pub returns-then-not-is_complete-clause-none : goal.returns-then-not-is_complete-clause-none
returns-then-not-is_complete-clause-none c =
    let s = c.args.self.now in
    let t = bound_texture (objects_of s) c.args.unit in
    let read = bound_read s c.args.images.now c.args.unit c.bound.result c.version.result c.bound.ensures.value c.version.ensures c.live-kept.ensures.kept c.requires.of in
    let same = read_is c.args.images.now c.version.result c.in-Some.v t.image c.get-image.result.now c.in-Some.is read c.get-image.ensures in
    none_where (is_complete t.image t.parameters.sampler) (complete_is t _ _ _ same c.bound_parameters.ensures c.is_complete.ensures ∙ c.if-not-is_complete.true)

pub returns-in_default-format-clause-none : goal.returns-in_default-format-clause-none
returns-in_default-format-clause-none c =
    let s = c.args.self.now in
    let t = bound_texture (objects_of s) c.args.unit in
    let read = bound_read s c.args.images.now c.args.unit c.bound.result c.version.result c.bound.ensures.value c.version.ensures c.live-kept.ensures.kept c.requires.of in
    let same = read_is c.args.images.now c.version.result c.in-Some.v t.image c.get-image.result.now c.in-Some.is read c.get-image.ensures in
    none_where (is_complete t.image t.parameters.sampler) (formatless-incomplete t.image t.parameters.sampler (ap format_of same ∙ sym c.format.ensures ∙ c.in_default-format.is))

pub returns-clause-none : goal.returns-clause-none
returns-clause-none c =
    let s = c.args.self.now in
    let t = bound_texture (objects_of s) c.args.unit in
    let read = bound_read s c.args.images.now c.args.unit c.bound.result c.version.result c.bound.ensures.value c.version.ensures c.live-kept.ensures.kept c.requires.of in
    let same = read_is c.args.images.now c.version.result c.in-Some.v t.image c.get-image.result.now c.in-Some.is read c.get-image.ensures in
    some_where _ (is_complete t.image t.parameters.sampler) (complete_is t _ _ _ same c.bound_parameters.ensures c.is_complete.ensures ∙ c.if-not-is_complete.false)

pub returns-clause-image : goal.returns-clause-image
returns-clause-image c =
    let s = c.args.self.now in
    let t = bound_texture (objects_of s) c.args.unit in
    let read = bound_read s c.args.images.now c.args.unit c.bound.result c.version.result c.bound.ensures.value c.version.ensures c.live-kept.ensures.kept c.requires.of in
    (version_read c.args.images.now c.version.result c.in-Some.v t.image c.in-Some.is read).contents

pub returns-clause-format : goal.returns-clause-format
returns-clause-format c =
    let s = c.args.self.now in
    let t = bound_texture (objects_of s) c.args.unit in
    let read = bound_read s c.args.images.now c.args.unit c.bound.result c.version.result c.bound.ensures.value c.version.ensures c.live-kept.ensures.kept c.requires.of in
    let same = read_is c.args.images.now c.version.result c.in-Some.v t.image c.get-image.result.now c.in-Some.is read c.get-image.ensures in
    ap format_of same ∙ sym c.format.ensures ∙ c.in-Some-format.is
