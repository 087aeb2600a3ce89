-- What the commands of images ask for, and their errors in order (OpenGL ES 1.1.12, 3.7.1 to 3.7.3;
-- OES_compressed_paletted_texture).
use Rattle.std.specs.Prelude.{ℕ, ◌+◌, ◌==◌, nat_le, nat_lt, ℤ, pos, int_lt, nat_abs, Bool, not, ◌||◌, ◌&&◌, List, [], Option, Some, None, Result, Ok, Err}
use Rattle.std.specs.Int.{is_power_of_two}
use Rattle.gl_tokens.specs.BaseFormat as base_format
use Rattle.gl_tokens.specs.PaletteFormat as palette_format
use Rattle.gl_tokens.specs.TexelType as texel_type
use Rattle.gl_tokens.specs.TextureTarget as texture_target
use Rattle.gl_tokens.specs.Commands.{known, unless, ◌>>=◌}
use Rattle.gl_tokens.specs.declared.base_format.BaseFormat.{BaseFormat}
use Rattle.gl_tokens.specs.declared.gl_error.GlError.{GlError}
use Rattle.gl_tokens.specs.declared.palette_format.PaletteFormat.{PaletteFormat}
use Rattle.gl_tokens.specs.declared.gl_error.GlError.TheVariants.{InvalidEnum, InvalidValue, InvalidOperation}
use Rattle.gl_tokens.specs.declared.texel_type.TexelType.{TexelType}
use Rattle.gl_records.specs.Complete.{level_at, is_empty_level}
use Rattle.gl_records.specs.declared.level.ImageSet.{ImageSet}
use Rattle.gl_records.specs.declared.level.Level.{Level as TexelLevel}
use Rattle.gl_records.specs.declared.rec.Rec.{Rec}
use Rattle.gl_records.specs.declared.rec.Rec.TheVariants.{TexImage2D, TexSubImage2D, CompressedTexImage2D}
use Rattle.pixel_unpack.specs.Palette.{palette_size}
use Rattle.pixel_unpack.specs.Texel.{is_pair}
use Rattle.image_levels.specs.Mipmaps.{last_number}
use Rattle.image_levels.specs.declared.texel_box.TexelBox.{TexelBox}
use Rattle.image_commands.specs.declared.image_write.ImageWrite.{ImageWrite}
use Rattle.image_commands.specs.declared.image_write.ImageWrite.TheVariants.{Level, Area, Palette}

-- the word is this number
unfoldable pub is_number : ℤ → ℕ → Bool
is_number word number = not (int_lt word (pos 0)) && nat_abs word == number

-- the number of a level: 0 to 10
unfoldable pub level_number : ℤ → Result ℕ GlError
level_number level = unless (int_lt level (pos 0) || nat_lt 10 (nat_abs level)) InvalidValue (Ok (nat_abs level))

-- the value that there is: InvalidValue where there is none
abbrev pub some_value : {A : Type 0} → Option A → Result A GlError
some_value (Some value) = Ok value
some_value None = Err InvalidValue

-- 0, or a power of two up to 1024
abbrev pub is_side : ℤ → Bool
is_side side = not (int_lt side (pos 0)) && nat_le (nat_abs side) 1024 && (nat_abs side == 0 || is_power_of_two (nat_abs side))

-- a side of a level
unfoldable pub level_side : ℤ → Result ℕ GlError
level_side side = unless (not (is_side side)) InvalidValue (Ok (nat_abs side))

-- the level of these sides, with no border, where there is this pair of format and type
unfoldable pub level_of : ℕ → BaseFormat → TexelType → ℤ → ℤ → ℤ → Result ImageWrite GlError
level_of k format kind w h border = do
  across ← level_side w
  up ← level_side h
  unless (not (is_number border 0)) InvalidValue (unless (not (is_pair format kind)) InvalidOperation (Ok (Level k format kind across up)))

-- TexImage2D (3.7.1)
unfoldable pub level_asked : ℕ → ℤ → ℕ → ℤ → ℤ → ℤ → ℕ → ℕ → Result ImageWrite GlError
level_asked target level internal w h border format_code type_code = do
  target ← known (texture_target.from_code_of target)
  k ← level_number level
  components ← some_value (base_format.from_code_of internal)
  format ← known (base_format.from_code_of format_code)
  kind ← known (texel_type.from_code_of type_code)
  unless (not (internal == format_code)) InvalidOperation (level_of k format kind w h border)

-- the level that is there and has texels: InvalidOperation where there is none
abbrev pub filled : Option TexelLevel → Result TexelLevel GlError
filled None = Err InvalidOperation
filled (Some level) = unless (is_empty_level level) InvalidOperation (Ok level)

-- so many places from the first on, of which one is outside of a side, or numbers below 0
abbrev pub is_outside : ℕ → ℤ → ℤ → Bool
is_outside side first count = int_lt first (pos 0) || int_lt count (pos 0) || nat_lt side (nat_abs first + nat_abs count)

-- the texels of a level from these columns and rows on
unfoldable pub box_in : TexelLevel → ℤ → ℤ → ℤ → ℤ → Result TexelBox GlError
box_in level x y w h =
    unless (is_outside level.w x w || is_outside level.h y h) InvalidValue
    (Ok (record { x = nat_abs x; y = nat_abs y; w = nat_abs w; h = nat_abs h }))

-- the texels of a level that is there, where it has this format and there is this pair of format and type
unfoldable pub area_of : Option TexelLevel → ℕ → ℤ → ℤ → ℤ → ℤ → BaseFormat → TexelType → Result ImageWrite GlError
area_of found k x y w h format kind = do
  old ← filled found
  area ← box_in old x y w h
  unless (not (base_format.code_of old.format == base_format.code_of format)) InvalidOperation
      (unless (not (is_pair format kind)) InvalidOperation (Ok (Area k area format kind)))

-- TexSubImage2D (3.7.2)
unfoldable pub area_asked : ImageSet → ℕ → ℤ → ℤ → ℤ → ℤ → ℤ → ℕ → ℕ → Result ImageWrite GlError
area_asked image target level x y w h format_code type_code = do
  target ← known (texture_target.from_code_of target)
  k ← level_number level
  format ← known (base_format.from_code_of format_code)
  kind ← known (texel_type.from_code_of type_code)
  area_of (level_at image k) k x y w h format kind

-- a side of a level with a palette, which isn't 0
unfoldable pub palette_side : ℤ → Result ℕ GlError
palette_side side = do
  found ← level_side side
  unless (found == 0) InvalidValue (Ok found)

-- the levels from 0 to the last, at most the one of 1 by 1, where palette and levels are of this size
unfoldable pub palette_of : PaletteFormat → ℕ → ℕ → ℕ → ℤ → ℤ → Result ImageWrite GlError
palette_of format w h last border size =
    unless (nat_lt (last_number w h) last) InvalidValue
    (unless (not (is_number border 0)) InvalidValue
    (unless (not (is_number size (palette_size format w h (last + 1)))) InvalidValue
    (Ok (Palette format w h (last + 1)))))

-- CompressedTexImage2D (3.7.3). The level is the number of the last one, with a minus.
unfoldable pub palette_asked : ℕ → ℤ → ℕ → ℤ → ℤ → ℤ → ℤ → Result ImageWrite GlError
palette_asked target level internal w h border size = do
  target ← known (texture_target.from_code_of target)
  format ← known (palette_format.from_code_of internal)
  across ← unless (int_lt (pos 0) level) InvalidValue (palette_side w)
  up ← palette_side h
  palette_of format across up (nat_abs level) border size

-- what a command of images asks of the image, or its first error but for memory
unfoldable pub asked_of : ImageSet → Rec → Result ImageWrite GlError
asked_of image (TexImage2D target level internal w h border format kind piece) = level_asked target level internal w h border format kind
asked_of image (TexSubImage2D target level x y w h format kind piece) = area_asked image target level x y w h format kind
asked_of image (CompressedTexImage2D target level internal w h border size piece) = palette_asked target level internal w h border size
asked_of image rec = Err InvalidEnum

-- the bytes that the command brings; a command that isn't one of images brings none
abbrev pub piece_of : Rec → List ℕ
piece_of (TexImage2D target level internal w h border format kind piece) = piece
piece_of (TexSubImage2D target level x y w h format kind piece) = piece
piece_of (CompressedTexImage2D target level internal w h border size piece) = piece
piece_of rec = []
