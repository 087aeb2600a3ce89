-- What an item draws is the same with and without the numbers of its versions.
use Rattle.std.specs.Prelude.{◌≡◌, ℕ, ℤ, pos, [], ◌∷◌, List, Option, Some, None, slice_index_or}
use Rattle.std.proofs.Common.{refl, sym, ap, ◌∙◌}
use Rattle.gl_records.specs.declared.frag_state.FragState.{FragState}
use Rattle.gl_records.specs.declared.item.Item.{Item}
use Rattle.gl_records.specs.declared.item.Item.TheVariants as item
use Rattle.gl_records.specs.declared.level.ImageSet.{ImageSet}
use Rattle.gl_records.specs.declared.pixel.Pixel.{Pixel}
use Rattle.gl_records.specs.declared.prim.Primitive.{Primitive}
use Rattle.gl_records.specs.declared.unit_state.UnitState.{UnitState}
use Rattle.gl_records.specs.After.{step}
use Rattle.gl_records.specs.Captured.{Draw, captured, captured_with, content_of, without_version, without_versions}
use Rattle.gl_records.specs.Interpolation.{interpolated_color}
use Rattle.gl_records.specs.Shading.{AreReadable, IsReadable, shaded, unit_at}
use Rattle.gl_records.specs.TextureEnvironment.{environment, textured, unit_texel}

-- ---- a unit's version
textured-without : (unit : Option UnitState) (image : Option ImageSet) (p : Primitive) (k : ℕ) (x y : ℤ) (primary previous : List ℕ)
    → textured (without_version unit) image p k x y primary previous ≡ textured unit image p k x y primary previous
unfolding environment unit_texel
textured-without None image p k x y primary previous = refl
textured-without (Some unit) None p k x y primary previous = refl
textured-without (Some unit) (Some set) p k x y primary previous = refl

-- the colour doesn't go by versions
pub shaded-without : (state : FragState) (first second : Option ImageSet) (p : Primitive) (x y : ℤ)
    → shaded (without_versions state) first second p x y ≡ shaded state first second p x y
unfolding shaded
shaded-without state first second p x y =
    let color = interpolated_color p x y in
    rw (textured-without (unit_at state 0) first p 0 x y color color)
    (rw (textured-without (unit_at state 1) second p 1 x y color (textured (unit_at state 0) first p 0 x y color color)) refl)

-- nor does what the item makes of a pixel
pub step-without : (prim : Primitive) (state : FragState) (first second : Option ImageSet) (x y : ℕ) (pixel : Pixel)
    → step (Draw prim (without_versions state) first second) x y pixel ≡ step (Draw prim state first second) x y pixel
step-without prim state first second x y pixel = rw (shaded-without state first second prim (pos x) (pos y)) refl

-- ---- images that can be read
readable-without : (unit : Option UnitState) (image : Option ImageSet) → IsReadable (without_version unit) image → IsReadable unit image
readable-without None image h = h
readable-without (Some unit) None h = h
readable-without (Some unit) (Some set) h = h

pub AreReadable-without : (state : FragState) (first second : Option ImageSet) → AreReadable (without_versions state) first second
    → AreReadable state first second
AreReadable-without state first second are = record {
  first_unit = readable-without (unit_at state 0) first are.first_unit;
  second_unit = readable-without (unit_at state 1) second are.second_unit;
}

readable-none : (unit : Option UnitState) → IsReadable unit None
readable-none None = tt
readable-none (Some unit) = tt

-- where there is no image none is read
pub AreReadable-none : (state : FragState) → AreReadable state None None
AreReadable-none state = record { first_unit = readable-none (unit_at state 0); second_unit = readable-none (unit_at state 1) }

-- ---- units that are off
-- versions are not there
pub without_versions-off : (state : FragState) → state.units ≡ None ∷ None ∷ [] → without_versions state ≡ state
without_versions-off state off =
    let made : List (Option UnitState) → FragState = λ units. record state { units = units } in
    let blank : List (Option UnitState) → List (Option UnitState) = λ units.
    without_version (slice_index_or units 0 None) ∷ without_version (slice_index_or units 1 None) ∷ [] in
    ap (λ (units : List (Option UnitState)). made (blank units)) off ∙ ap made (sym off)

pub shaded-off : (state : FragState) (first second : Option ImageSet) (p : Primitive) (x y : ℤ)
    → unit_at state 0 ≡ None → unit_at state 1 ≡ None → state.fog ≡ None → shaded state first second p x y ≡ interpolated_color p x y
unfolding shaded
shaded-off state first second p x y one two fog = rw (one, two, fog) refl

-- ---- contents of versions
content-none : (unit : Option UnitState) → content_of (λ v. None) unit ≡ None
content-none None = refl
content-none (Some unit) = refl

-- where no version has a content the item reads no image
pub captured-is : (item : Item) → captured_with (λ v. None) item ≡ captured item
captured-is (item.Draw prim state) = rw (content-none (unit_at state 0), content-none (unit_at state 1)) refl
captured-is (item.Clear clear) = refl
