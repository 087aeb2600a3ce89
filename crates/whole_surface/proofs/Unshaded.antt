-- Items without textures and fog, and without the numbers of versions.
use Rattle.std.specs.Prelude.{◌≡◌, ℕ, ℤ, false, ◌||◌, Option, Some, None, is_some}
use Rattle.std.proofs.Common.{refl, sym}
use Rattle.gl_records.specs.declared.frag_state.FragState.{FragState}
use Rattle.gl_records.specs.declared.item.Item.{Item}
use Rattle.gl_records.specs.declared.item.Item.TheVariants as item
use Rattle.gl_records.specs.declared.level.ImageSet.{ImageSet}
use Rattle.gl_records.specs.declared.pixel.Pixel.{Pixel}
use Rattle.gl_records.specs.declared.prim.Primitive.{Primitive}
use Rattle.gl_records.specs.declared.size.Size.{Size}
use Rattle.gl_records.specs.After.{step}
use Rattle.gl_records.specs.Captured.{captured_by}
use Rattle.gl_records.specs.Interpolation.{interpolated_color}
use Rattle.gl_records.specs.Shading.{shaded, unit_at}
use Rattle.gl_records.specs.Valid.{IsDrawable}
use Rattle.gl_records.proofs.Captures.{AreReadable-without, shaded-off, step-without}
use Rattle.whole_surface.specs.Paints.{is_shaded}
use Rattle.whole_surface.specs.UnitImages.{UnitImages, item_with}

none_of : {A B C : Type 0} (a : Option A) (b : Option B) (c : Option C) → (is_some a || is_some b || is_some c) ≡ false → (a ≡ None) × (b ≡ None) × (c ≡ None)
none_of None None None h = (refl, refl, refl)
none_of None None (Some c) h = absurd (cc)
none_of None (Some b) c h = absurd (cc)
none_of (Some a) b c h = absurd (cc)

-- where neither a texture unit nor fog is on, the colour is the interpolated one
pub unshaded : (state : FragState) (first second : Option ImageSet) (p : Primitive) (x y : ℤ) → is_shaded state ≡ false
    → shaded state first second p x y ≡ interpolated_color p x y
unshaded state first second p x y off =
    let none = none_of (unit_at state 0) (unit_at state 1) state.fog off in
    shaded-off state first second p x y none.0 none.1 none.2

-- an item makes of a pixel what it makes captured
pub step-captured : (item : Item) (images : UnitImages) (x y : ℕ) (pixel : Pixel)
    → step (item_with item images) x y pixel ≡ step (captured_by item images.first images.second) x y pixel
step-captured (item.Draw prim state) images x y pixel = sym (step-without prim state images.first images.second x y pixel)
step-captured (item.Clear clear) images x y pixel = refl

-- and it can be drawn
pub drawable-captured : (item : Item) (images : UnitImages) (size : Size) → IsDrawable (captured_by item images.first images.second) size
    → IsDrawable (item_with item images) size
drawable-captured (item.Draw prim state) images size valid = record {
  primitive = valid.primitive;
  images = AreReadable-without state images.first images.second valid.images;
}
drawable-captured (item.Clear clear) images size valid = valid
