-- What the commands of images do to the image of one texture (OpenGL ES 1.1.12, 3.7.1 to 3.7.3 and 3.7.7).
use Rattle.std.specs.Prelude.{ℕ, ◌≡◌, ◌<◌, ◌≤◌, ◌==◌, ◌||◌, ◌&&◌, Bool, false, IsTrue, if◌then◌else◌, List, length, Option, None, Some, IfSome, slice_set}
use Rattle.gl_tokens.specs.declared.base_format.BaseFormat.{BaseFormat}
use Rattle.gl_tokens.specs.declared.texel_type.TexelType.{TexelType}
use Rattle.gl_records.specs.Complete.{level_at}
use Rattle.gl_records.specs.declared.level.ImageSet.{ImageSet}
use Rattle.gl_records.specs.declared.level.Level.{Level as TexelLevel}
use Rattle.pixel_unpack.specs.Image.{image as unpacked}
use Rattle.pixel_unpack.specs.Palette.{palette_levels}
use Rattle.pixel_unpack.specs.Texel.{is_pair}
use Rattle.image_levels.specs.Levels.{with_levels}
use Rattle.image_levels.specs.Mipmaps.{IsFirst, remade}
use Rattle.image_levels.specs.SubImage.{Holds, with_sub_image_in}
use Rattle.image_levels.specs.declared.texel_box.TexelBox.{TexelBox}
use Rattle.image_commands.specs.declared.image_write.ImageWrite.{ImageWrite}
use Rattle.image_commands.specs.declared.image_write.ImageWrite.TheVariants.{Level, Area, Palette}

-- the level that TexImage2D gives: none where a side is 0
abbrev pub new_level : BaseFormat → TexelType → ℕ → ℕ → ℕ → List ℕ → Option TexelLevel
new_level format kind w h align piece =
    if w == 0 || h == 0 then None else Some (record { w = w; h = h; format = format; texels = unpacked format kind align w h piece })

-- an image with another level k, or with none there
abbrev pub with_level_or_none : ImageSet → ℕ → Option TexelLevel → ImageSet
with_level_or_none image k level = record { levels = slice_set image.levels k level }

-- the image once the levels that the command names are given, by its piece and the alignment of its rows
unfoldable pub given : ImageSet → ImageWrite → ℕ → List ℕ → ImageSet
given image (Level k format kind w h) align piece = with_level_or_none image k (new_level format kind w h align piece)
given image (Area k area format kind) align piece = with_sub_image_in image k area (unpacked format kind align area.w area.h piece)
given image (Palette format w h levels) align piece = with_levels image (palette_levels format w h levels piece)

-- level 0 is given or written in part; a palette makes no levels
abbrev pub makes_levels : ImageWrite → Bool
makes_levels (Level k format kind w h) = k == 0
makes_levels (Area k area format kind) = k == 0
makes_levels (Palette format w h levels) = false

-- the image after the command. With GENERATE_MIPMAP the levels behind a level 0 that is there are made of it.
unfoldable pub written : ImageSet → ImageWrite → Bool → ℕ → List ℕ → ImageSet
written image write remakes align piece =
    if remakes && makes_levels write then remade (given image write align piece) else given image write align piece

-- what always holds of an image: eleven places, and each level that is there has texels, as many as its sides say,
-- and sides of 1 to 1024
pub record IsGood (image : ImageSet) : Type 0 where
  pub count : length image.levels ≡ 11
  pub each : (k : ℕ) → IfSome (level_at image k) IsFirst

-- a level that may be given
pub record IsLevel (k : ℕ) (format : BaseFormat) (kind : TexelType) (w h : ℕ) : Type 0 where
  pub number : k < 11
  pub pair : IsTrue (is_pair format kind)
  pub w_most : w ≤ 1024
  pub h_most : h ≤ 1024

-- texels of a level that is there
pub record IsArea (image : ImageSet) (k : ℕ) (area : TexelBox) (format : BaseFormat) (kind : TexelType) : Type 0 where
  pub number : k < 11
  pub pair : IsTrue (is_pair format kind)
  pub holds : Holds (level_at image k) area

-- levels that a palette may give
pub record IsPalette (w h levels : ℕ) : Type 0 where
  pub w_least : 1 ≤ w
  pub w_most : w ≤ 1024
  pub h_least : 1 ≤ h
  pub h_most : h ≤ 1024
  pub most : levels ≤ 11

-- the command has no error but for memory, and may be done to this image
abbrev pub IsPossible : ImageSet → ImageWrite → Type 0
IsPossible image (Level k format kind w h) = IsLevel k format kind w h
IsPossible image (Area k area format kind) = IsArea image k area format kind
IsPossible image (Palette format w h levels) = IsPalette w h levels
