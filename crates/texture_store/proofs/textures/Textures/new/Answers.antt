use Rattle.std.proofs.Common.{◌∙◌, [], ◌∷◌, refl, sym, ap}
use Rattle.texture_store.specs.Stored.{StoredTextures, texture_of}
use Rattle.std.specs.FinMap as map
use Rattle.object_names.specs.Seen.{seen_as}
use Rattle.object_names.proofs.Seen.{seen-empty}
use Rattle.texture_store.proofs.Keeping.{IsBlank, bytes-new, kept_new}
use Rattle.texture_store.proofs.textures.Textures.new.Goals as goal

abbrev made : goal.After-drop-images-inside-2 → StoredTextures
made c = record { names = c.new.result; unnamed = c.new-2.result; bound = 0 ∷ 0 ∷ []; versions = c.of.result.value }

blank : (c : goal.After-drop-images-inside-2) → IsBlank c.new-2.result
blank c = record { version = c.new-2.ensures.version; image = ap (λ t. t.image) c.new-2.ensures.texture }

pub invariant_of-result : goal.invariant_of-result
invariant_of-result c =
    let slots = ap (λ v. v.slots) c.of.ensures ∙ c.new-images.ensures.none in
    (sym (bytes-new (made c) c.new.ensures (blank c)), kept_new (made c) c.new.ensures (blank c) refl slots)

pub returns-clause-objects : goal.returns-clause-objects
returns-clause-objects c =
    ap (λ names. record { names = seen_as texture_of names; unnamed = texture_of c.new-2.result; bound = 0 ∷ 0 ∷ [] }) c.new.ensures
    ∙ ap (λ names. record { names = names; unnamed = texture_of c.new-2.result; bound = 0 ∷ 0 ∷ [] }) (seen-empty texture_of)
    ∙ ap (λ t. record { names = map.empty; unnamed = t; bound = 0 ∷ 0 ∷ [] }) c.new-2.ensures.texture
