-- The colour of a primitive at a pixel that it covers (OpenGL ES 1.1.12, 3.7 and 3.8): interpolated, textured by unit 0
-- and then by unit 1, and at last in fog.
use Rattle.std.specs.Prelude.{◌≡◌, ℕ, ℤ, true, List, Option, Some, None, slice_index_or}
use Rattle.gl_records.specs.declared.frag_state.FragState.{FragState}
use Rattle.gl_records.specs.declared.level.ImageSet.{ImageSet}
use Rattle.gl_records.specs.declared.prim.Primitive.{Primitive}
use Rattle.gl_records.specs.declared.unit_state.UnitState.{UnitState}
use Rattle.gl_records.specs.Complete.{is_complete}
use Rattle.gl_records.specs.FogColor.{fogged}
use Rattle.gl_records.specs.Interpolation.{interpolated_color}
use Rattle.gl_records.specs.TextureEnvironment.{textured}

-- unit k, where it is on
abbrev pub unit_at : FragState → ℕ → Option UnitState
unit_at state k = slice_index_or state.units k None

-- the image that a unit reads is complete for its sampler; a unit that is off reads none
abbrev pub IsReadable : Option UnitState → Option ImageSet → Type 0
IsReadable None image = Unit {0}
IsReadable (Some unit) None = Unit {0}
IsReadable (Some unit) (Some set) = is_complete set unit.sampler ≡ true

-- the images that both units read
pub record AreReadable (state : FragState) (first second : Option ImageSet) : Type 0 where
  pub first_unit : IsReadable (unit_at state 0) first
  pub second_unit : IsReadable (unit_at state 1) second

-- the colour behind both units, of the colour before texturing
abbrev pub textured_color : FragState → (first second : Option ImageSet) → Primitive → ℤ → ℤ → List ℕ → List ℕ
textured_color state first second p x y primary =
    textured (unit_at state 1) second p 1 x y primary (textured (unit_at state 0) first p 0 x y primary primary)

-- the colour of a primitive at pixel (x, y) in this state, with the images of the two units
unfoldable pub shaded : FragState → (first second : Option ImageSet) → Primitive → ℤ → ℤ → List ℕ
shaded state first second p x y =
    fogged state.fog p x y (textured_color state first second p x y (interpolated_color p x y))
