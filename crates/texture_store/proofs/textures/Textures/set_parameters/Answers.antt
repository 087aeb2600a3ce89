use Rattle.std.proofs.Common.{◌≡◌, ◌∙◌, refl, sym, ap, subst, true, is_some}
use Rattle.texture_store.specs.Kept.{IsKept}
use Rattle.texture_store.specs.Stored.{StoredTextures, objects_of, stored_at, told, with_changed}
use Rattle.texture_store.specs.Textures.{live_bytes}
use Rattle.texture_store.proofs.Keeping.{bytes-told, kept_told}
use Rattle.texture_store.proofs.Storing.{changed_above}
use Rattle.texture_store.proofs.textures.Textures.set_parameters.Goals as goal

abbrev was : goal.After-tell → StoredTextures
was c = record { names = c.self.inside.names; unnamed = c.self.inside.unnamed; bound = c.self.inside.bound; versions = c.self.inside.images.value }

pub invariant_of-self-else-name-eq0 : goal.invariant_of-self-else-name-eq0
invariant_of-self-else-name-eq0 c =
    let lives : is_some (stored_at (was c) c.args.name) ≡ true = ap (λ s. is_some (stored_at s c.args.name)) c.self.view_is ∙ c.requires in
    let same : with_changed (told c.args.parameters) (was c) c.args.name ≡ record (was c) { names = c.tell.new.names } =
    changed_above (told c.args.parameters) (was c) c.args.name c.if-name-eq0.false ∙ ap (λ names. record (was c) { names = names }) (sym c.tell.ensures) in (
      c.self.invariant.0 ∙ sym (bytes-told (was c) c.args.name c.args.parameters _ refl lives) ∙ ap (λ s. live_bytes (objects_of s)) same,
      subst IsKept same (kept_told (was c) c.args.name c.args.parameters _ refl lives c.self.invariant.1),
    )
