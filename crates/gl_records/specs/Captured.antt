-- What an item is at the moment of its record, by value: nothing that comes later changes what it draws.
use Rattle.std.specs.Prelude.{[], ◌∷◌, Option, Some, None}
use Rattle.gl_records.specs.declared.clear.ClearItem.{ClearItem}
use Rattle.gl_records.specs.declared.frag_state.FragState.{FragState}
use Rattle.gl_records.specs.declared.item.Item.{Item}
use Rattle.gl_records.specs.declared.item.Item.TheVariants as item
use Rattle.gl_records.specs.declared.level.ImageSet.{ImageSet}
use Rattle.gl_records.specs.declared.prim.Primitive.{Primitive}
use Rattle.gl_records.specs.declared.unit_state.UnitState.{UnitState}
use Rattle.gl_records.specs.declared.version_id.VersionId.{VersionId}
use Rattle.gl_records.specs.Shading.{unit_at}

-- a primitive, what happens to its fragments, and the images of both texture units, none where a unit is off; or a Clear
pub data Captured : Type 0 where
  Draw : Primitive → FragState → (first second : Option ImageSet) → Captured
  Clear : ClearItem → Captured

-- a unit whose version stands for nothing any more: it is that of number 0
abbrev pub without_version : Option UnitState → Option UnitState
without_version None = None
without_version (Some unit) = Some (record unit { version = record { 0 = 0 } })

-- the same of both units
abbrev pub without_versions : FragState → FragState
without_versions state = record state {
  units = without_version (unit_at state 0) ∷ without_version (unit_at state 1) ∷ [];
}

-- an item with these images at the units, captured: it holds them, and names no version
abbrev pub captured_by : Item → (first second : Option ImageSet) → Captured
captured_by (item.Draw prim state) first second = Draw prim (without_versions state) first second
captured_by (item.Clear clear) first second = Clear clear

-- what the version that a unit reads holds, by the contents of versions; none where the unit is off
abbrev pub content_of : (VersionId → Option ImageSet) → Option UnitState → Option ImageSet
content_of contents None = None
content_of contents (Some unit) = contents unit.version

-- an item, captured by the contents of versions
abbrev pub captured_with : (VersionId → Option ImageSet) → Item → Captured
captured_with contents (item.Draw prim state) =
    captured_by (item.Draw prim state) (content_of contents (unit_at state 0)) (content_of contents (unit_at state 1))
captured_with contents (item.Clear clear) = Clear clear

-- an item that reads no image, captured
abbrev pub captured : Item → Captured
captured item = captured_by item None None
