-- What TexSubImage2D leaves of a level (OpenGL ES 1.1.12, 3.7.2).
use Rattle.std.specs.Prelude.{ℕ, ◌+◌, ◌-◌, ◌≤◌, ◌&&◌, Bool, nat_le, nat_lt, if◌then◌else◌, List, Option, None, Some, slice_set}
use Rattle.gl_records.specs.Complete.{level_at}
use Rattle.gl_records.specs.declared.level.ImageSet.{ImageSet}
use Rattle.gl_records.specs.declared.level.Level.{Level}
use Rattle.image_levels.specs.Texels.{IsFilled, texel_of, texels_by}
use Rattle.image_levels.specs.declared.texel_box.TexelBox.{TexelBox}

-- the texels that are replaced lie in the level
abbrev pub IsInside : TexelBox → ℕ → ℕ → Type 0
IsInside area w h = (area.x + area.w ≤ w) × (area.y + area.h ≤ h)

-- a place is one of so many from the first on
abbrev pub is_among : ℕ → ℕ → ℕ → Bool
is_among first count place = nat_le first place && nat_lt place (first + count)

-- the texel in column x and row y, where so many rows of the area have been replaced
abbrev pub replaced_texel : ℕ → TexelBox → ℕ → List ℕ → List ℕ → ℕ → ℕ → ℕ
replaced_texel across area rows old texels x y =
    if is_among area.x area.w x && is_among area.y rows y then texel_of area.w texels (x - area.x) (y - area.y) else texel_of across old x y

-- the texels of a level of w by h, where the area has these and the others are as they were
abbrev pub replaced_texels : ℕ → ℕ → TexelBox → List ℕ → List ℕ → List ℕ
replaced_texels w h area old texels = texels_by w h (replaced_texel w area area.h old texels)

-- the level with a sub-image
abbrev pub with_sub_image : Level → TexelBox → List ℕ → Level
with_sub_image level area texels = record level { texels = replaced_texels level.w level.h area level.texels texels }

-- the same of a level that may be there, and of level k of an image
abbrev pub sub_image_of : Option Level → TexelBox → List ℕ → Option Level
sub_image_of None area texels = None
sub_image_of (Some level) area texels = Some (with_sub_image level area texels)

abbrev pub with_sub_image_in : ImageSet → ℕ → TexelBox → List ℕ → ImageSet
with_sub_image_in set k area texels = record { levels = slice_set set.levels k (sub_image_of (level_at set k) area texels) }

-- a level is there, with as many texels as its sides say, and the area lies in it
abbrev pub Holds : Option Level → TexelBox → Type 0
Holds None area = ⊥
Holds (Some level) area = IsFilled level × IsInside area level.w level.h
