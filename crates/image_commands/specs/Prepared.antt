-- What a write puts into an image, with all its memory taken beforehand.
use Rattle.std.specs.Prelude.{ℕ, ◌≡◌, ◌*◌, ◌<◌, ◌≤◌, Bool, true, false, List, length, vec_len, Option, None, Some, IfSome}
use Rattle.std.specs.Global.{Vec}
use Rattle.gl_records.specs.Complete.{level_at}
use Rattle.gl_records.specs.declared.level.ImageSet.{ImageSet}
use Rattle.gl_records.specs.declared.level.Level.{Level as TexelLevel}
use Rattle.image_levels.specs.Levels.{with_levels}
use Rattle.image_levels.specs.Mipmaps.{AreFor, remade}
use Rattle.image_levels.specs.SubImage.{Holds, with_sub_image_in}
use Rattle.image_commands.specs.Written.{IsGood, with_level_or_none, written}
use Rattle.image_commands.specs.declared.image_write.ImageWrite.{ImageWrite}
use Rattle.image_commands.specs.declared.prepared.Part.{Part}
use Rattle.image_commands.specs.declared.prepared.Part.TheVariants.{Whole, Texels, Levels}
use Rattle.image_commands.specs.declared.prepared.Prepared.{Prepared}

-- the image with this part in it
unfoldable pub with_part : ImageSet → Part → ImageSet
with_part image (Whole k level) = with_level_or_none image k level
with_part image (Texels k area texels) = with_sub_image_in image k area texels
with_part image (Levels all) = with_levels image all.items

-- the levels behind level 0 are made where there is memory for them
abbrev pub with_made : ImageSet → Option (Vec TexelLevel) → ImageSet
with_made image None = image
with_made image (Some blanks) = remade image

-- the image once what is prepared has been put into it
unfoldable pub put_of : ImageSet → Prepared → ImageSet
put_of image prepared = with_made (with_part image prepared.part) prepared.blanks

-- the part may be put into this image
abbrev pub Fits : ImageSet → Part → Type 0
Fits image (Whole k level) = k < 11
Fits image (Texels k area texels) = (k < 11) × Holds (level_at image k) area × (length texels ≡ area.w * area.h)
Fits image (Levels all) = vec_len all ≤ 11

-- so may what is prepared
pub record IsReady (image : ImageSet) (prepared : Prepared) : Type 0 where
  pub fits : Fits image prepared.part
  pub blanks : IfSome prepared.blanks (λ blanks. AreFor (level_at (with_part image prepared.part) 0) blanks.items)

-- places for the levels behind this one are taken where levels are made, and it is there
abbrev pub AreTaken : Bool → Option TexelLevel → Option (Vec TexelLevel) → Type 0
AreTaken false first blanks = blanks ≡ None
AreTaken true first None = first ≡ None
AreTaken true first (Some blanks) = AreFor first blanks.items

-- it is ready to be put, and makes of the image what the command does
pub record IsPrepared (image : ImageSet) (write : ImageWrite) (remakes : Bool) (align : ℕ) (piece : List ℕ) (prepared : Prepared) : Type 0 where
  pub ready : IsReady image prepared
  pub value : put_of image prepared ≡ written image write remakes align piece
  pub good : IsGood (put_of image prepared)
