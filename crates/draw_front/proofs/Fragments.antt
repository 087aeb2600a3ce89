-- What happens to the fragments of a draw, by the images that units are given.
use Rattle.std.proofs.Common.{◌≡◌, ◌∙◌, ℕ, Bool, true, false, List, [], ◌∷◌, Option, Some, None, IfSome, refl}
use Rattle.gl_records.specs.Captured.{captured_by, without_version, without_versions}
use Rattle.gl_records.specs.declared.item.Item.{Item}
use Rattle.gl_records.specs.declared.item.Item.TheVariants as item
use Rattle.gl_records.specs.Complete.{is_complete}
use Rattle.gl_records.specs.Shading.{AreReadable, IsReadable, unit_at}
use Rattle.gl_records.specs.declared.frag_state.FragState.{FragState}
use Rattle.gl_records.specs.declared.unit_state.UnitState.{UnitState}
use Rattle.gl_state.specs.declared.environments.Environment.{Environment}
use Rattle.gl_state.specs.declared.state.State.{State}
use Rattle.gl_state.specs.FragState.{Image, frag_state, unit}
use Rattle.texture_store.specs.Textures.{TextureObjects, bound_texture}
use Rattle.draw_front.specs.Draws.{captured_in, content_in, fragments_of, given_image, unit_content, unversioned_image}

unit-unversioned : (on : Bool) (environment : Environment) (image : Option Image) → without_version (unit on environment image) ≡ unit on environment (unversioned_image image)
unit-unversioned false environment image = refl
unit-unversioned true environment None = refl
unit-unversioned true environment (Some image) = refl

pub fragments-is : (s : State) (textures : TextureObjects) (first second : Option Image) → unversioned_image first ≡ given_image (bound_texture textures 0) → unversioned_image second ≡ given_image (bound_texture textures 1) →
    without_versions (frag_state s (first ∷ second ∷ [])) ≡ fragments_of s textures
unfolding fragments_of
fragments-is s textures first second one two =
    let state : List (Option UnitState) → FragState = λ units. record (frag_state s []) { units = units } in
    (λ i. state (unit-unversioned s.switches.texture0 s.environments.texture0 first i ∷ unit-unversioned s.switches.texture1 s.environments.texture1 second i ∷ []))
    ∙ (λ i. state (unit s.switches.texture0 s.environments.texture0 (one i) ∷ unit s.switches.texture1 s.environments.texture1 (two i) ∷ []))

readable-unit : (on : Bool) (environment : Environment) (image : Option Image) (textures : TextureObjects) (k : ℕ) → IfSome image (λ read. is_complete (bound_texture textures k).image read.2 ≡ true) →
    IsReadable (without_version (unit on environment image)) (unit_content (unit on environment image) textures k)
readable-unit false environment image textures k complete = tt
readable-unit true environment None textures k complete = tt
readable-unit true environment (Some image) textures k complete = complete

pub fragments-readable : (s : State) (textures : TextureObjects) (first second : Option Image) →
    IfSome first (λ read. is_complete (bound_texture textures 0).image read.2 ≡ true) → IfSome second (λ read. is_complete (bound_texture textures 1).image read.2 ≡ true) →
    (let state : FragState = frag_state s (first ∷ second ∷ []) in AreReadable (without_versions state) (unit_content (unit_at state 0) textures 0) (unit_content (unit_at state 1) textures 1))
fragments-readable s textures first second one two = record {
  first_unit = readable-unit s.switches.texture0 s.environments.texture0 first textures 0 one;
  second_unit = readable-unit s.switches.texture1 s.environments.texture1 second textures 1 two;
}

-- an item with what its units read is captured
pub captured-content : (textures : TextureObjects) (item : Item) → captured_by item (content_in textures item 0) (content_in textures item 1) ≡ captured_in textures item
captured-content textures (item.Draw prim state) = refl
captured-content textures (item.Clear clear) = refl
