-- What colours are found of: a primitive in a state of fragments, with the images of both units.
use Rattle.std.specs.Prelude.{ℕ, pos, List, Option}
use Rattle.gl_records.specs.declared.frag_state.FragState.{FragState}
use Rattle.gl_records.specs.declared.level.ImageSet.{ImageSet}
use Rattle.gl_records.specs.declared.prim.Primitive.{Primitive}
use Rattle.gl_records.specs.declared.tile.TileRect.{TileRect}
use Rattle.gl_records.specs.Shading.{AreReadable, shaded}
use Rattle.gl_records.specs.Valid.{IsInRange}
use Rattle.interpolation.specs.TileValues.{OnTile as PrimitiveOnTile}

pub record Subject : Type 0 where
  pub state : FragState
  pub first : Option ImageSet
  pub second : Option ImageSet
  pub prim : Primitive

-- the primitive is one that set-up makes, and the images can be read
pub record IsSubject (subject : Subject) : Type 0 where
  pub in_range : IsInRange subject.prim
  pub readable : AreReadable subject.state subject.first subject.second

-- the same on one tile
pub record OnTile : Type 0 where
  pub subject : Subject
  pub rect : TileRect

-- the primitive there
abbrev pub primitive_on : OnTile → PrimitiveOnTile
primitive_on on = record { prim = on.subject.prim; rect = on.rect }

-- the colour at a pixel
abbrev pub color_of : Subject → (x y : ℕ) → List ℕ
color_of subject x y = shaded subject.state subject.first subject.second subject.prim (pos x) (pos y)
