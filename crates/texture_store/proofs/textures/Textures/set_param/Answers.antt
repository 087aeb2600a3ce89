use Rattle.std.proofs.Common.{◌∙◌, refl, ap, None, Result, Ok}
use Rattle.gl_tokens.specs.Commands.{done, ◌>>=◌}
use Rattle.gl_tokens.specs.declared.gl_error.GlError.{GlError}
use Rattle.texture_store.specs.Stored.{objects_of}
use Rattle.texture_store.specs.Textures.{texture_at, texture_or_opening, with_texture, bound_name, bound_texture}
use Rattle.texture_store.specs.declared.parameters.Parameters.{Parameters}
use Rattle.texture_store.proofs.Keeping.{objects-told}
use Rattle.texture_store.proofs.textures.Textures.set_param.Goals as goal

pub set_parameters-requires : goal.set_parameters-requires
set_parameters-requires c = c.bound.ensures.object

pub returns-in-Ok-clause-run : goal.returns-in-Ok-clause-run
returns-in-Ok-clause-run c =
    let t = objects_of c.args.self.now in
    let new = ap objects_of c.set_parameters.ensures ∙ objects-told c.args.self.now c.bound.result c.in-Ok.parameters _ refl c.bound.ensures.object
    ∙ ap (λ name. with_texture t name (record (texture_or_opening (texture_at t name)) { parameters = c.in-Ok.parameters })) c.bound.ensures.value in
    ap (λ objects. (objects, None)) new
    ∙ ap (λ (r : Result Parameters GlError). done t (r >>= (λ parameters. Ok (with_texture t (bound_name t c.args.unit) (record (bound_texture t c.args.unit) { parameters = parameters }))))) c.in-Ok.ensures
