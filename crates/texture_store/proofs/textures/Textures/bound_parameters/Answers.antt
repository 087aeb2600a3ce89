use Rattle.std.proofs.Common.{◌∙◌, ap, Some, None}
use Rattle.texture_store.specs.Stored.{stored_at}
use Rattle.texture_store.proofs.ByValue.{bound_is}
use Rattle.texture_store.proofs.textures.Textures.bound_parameters.Goals as goal

pub returns-in-Some : goal.returns-in-Some
returns-in-Some c =
    ap (λ t. t.parameters) (bound_is c.args.self.now c.args.unit (Some c.in-Some.object.now) (c.in-Some.ensures ∙ ap (stored_at c.args.self.now) c.bound.ensures.value))

pub returns-in-None : goal.returns-in-None
returns-in-None c =
    c.new.ensures ∙ ap (λ t. t.parameters) (bound_is c.args.self.now c.args.unit None (c.in-None.ensures ∙ ap (stored_at c.args.self.now) c.bound.ensures.value))
