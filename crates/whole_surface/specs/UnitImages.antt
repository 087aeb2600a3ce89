-- The images that an item is drawn with.
use Rattle.std.specs.Prelude.{Option}
use Rattle.gl_records.specs.declared.item.Item.{Item}
use Rattle.gl_records.specs.declared.item.Item.TheVariants as item
use Rattle.gl_records.specs.declared.level.ImageSet.{ImageSet}
use Rattle.gl_records.specs.Captured.{Captured, Draw, Clear}

-- those of both texture units
pub record UnitImages : Type 0 where
  pub first : Option ImageSet
  pub second : Option ImageSet

-- an item with these images, its state as it has it
abbrev pub item_with : Item → UnitImages → Captured
item_with (item.Draw prim state) images = Draw prim state images.first images.second
item_with (item.Clear clear) images = Clear clear
