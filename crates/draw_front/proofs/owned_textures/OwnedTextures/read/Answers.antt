use Rattle.std.proofs.Common.{◌≡◌, ◌∙◌, refl, sym, ap, subst, true, Option}
use Rattle.std.proofs.lemmas.Bool.{false≢true}
use Rattle.gl_records.specs.Captured.{without_version}
use Rattle.gl_records.specs.Complete.{is_complete}
use Rattle.gl_records.specs.ImageBytes.{empty_image}
use Rattle.gl_records.specs.Shading.{IsReadable}
use Rattle.gl_records.specs.declared.unit_state.UnitState.{UnitState}
use Rattle.texture_store.specs.Textures.{bound_texture}
use Rattle.texture_store.proofs.Reading.{empty-incomplete}
use Rattle.draw_front.specs.Draws.{unit_content}
use Rattle.draw_front.proofs.owned_textures.OwnedTextures.read.Goals as goal

pub returns-in-None-image : goal.returns-in-None-image
returns-in-None-image c =
    let sampler = c.in-Some.field-0.sampler in
    let readable : is_complete (bound_texture c.args.self.now c.args.unit).image sampler ≡ true =
    subst (λ (o : Option UnitState). IsReadable (without_version o) (unit_content o c.args.self.now c.args.unit)) c.in-Some.is c.requires.readable in
    let empty : (bound_texture c.args.self.now c.args.unit).image ≡ empty_image = ap (λ t. (bound_texture t c.args.unit).image) (sym c.self.view_is) ∙ c.in-None-image.ensures.none refl in
    absurd (false≢true (sym (ap (λ image. is_complete image sampler) empty ∙ empty-incomplete sampler) ∙ readable))
