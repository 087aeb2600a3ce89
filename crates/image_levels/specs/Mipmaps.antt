-- The levels that GENERATE_MIPMAP makes (OpenGL ES 1.1.12, 3.7.7), each of the one before it: by a filter of two by
-- two texels, or of two where one side is 1, rounded to the nearest (this project's profile).
use Rattle.std.specs.Prelude.{ℕ, zero, suc, ◌+◌, ◌*◌, ◌/◌, ◌==◌, ◌≡◌, ◌≤◌, max, if◌then◌else◌, List, slice_index, slice_index_or, map, replicate, Option, None, Some}
use Rattle.std.specs.Int.{w32, from_le_bytes, to_le_bytes}
use Rattle.std.specs.List.{range_with_len, sum}
use Rattle.gl_records.specs.Color.{color_of}
use Rattle.gl_records.specs.Complete.{halved, last_of, level_at}
use Rattle.gl_records.specs.ImageBytes.{level_bytes}
use Rattle.gl_records.specs.TopBit.{top_bit}
use Rattle.gl_tokens.specs.declared.base_format.BaseFormat.{BaseFormat}
use Rattle.gl_records.specs.declared.level.ImageSet.{ImageSet}
use Rattle.gl_records.specs.declared.level.Level.{Level}
use Rattle.image_levels.specs.SubImage.{is_among}
use Rattle.image_levels.specs.Texels.{IsFilled, texel_of, texels_by}

-- component k of a texel
abbrev pub component : ℕ → ℕ → ℕ
component texel k = slice_index (to_le_bytes w32 texel) k

-- the texel with these components
abbrev pub texel_with : (ℕ → ℕ) → ℕ
texel_with component = from_le_bytes w32 (color_of component)

-- the mean of two texels, and that of four
abbrev pub mean_of_two : ℕ → ℕ → ℕ
mean_of_two a b = texel_with (λ k. (component a k + component b k + 1) / 2)

abbrev pub mean_of_four : ℕ → ℕ → ℕ → ℕ → ℕ
mean_of_four a b c d = texel_with (λ k. (component a k + component b k + component c k + component d k + 2) / 4)

-- the texel in column x and row y of the level behind one of w by h
abbrev pub smaller_texel : ℕ → ℕ → List ℕ → ℕ → ℕ → ℕ
smaller_texel w h texels x y =
    if w == 1 then mean_of_two (texel_of w texels 0 (2 * y)) (texel_of w texels 0 (2 * y + 1)) else
    if h == 1 then mean_of_two (texel_of w texels (2 * x) 0) (texel_of w texels (2 * x + 1) 0) else
    mean_of_four (texel_of w texels (2 * x) (2 * y)) (texel_of w texels (2 * x + 1) (2 * y)) (texel_of w texels (2 * x) (2 * y + 1)) (texel_of w texels (2 * x + 1) (2 * y + 1))

-- the level behind a level, of halved sides
abbrev pub smaller_level : Level → Level
smaller_level level = record {
  w = halved level.w 1;
  h = halved level.h 1;
  format = level.format;
  texels = texels_by (halved level.w 1) (halved level.h 1) (smaller_texel level.w level.h level.texels);
}

-- level k of the image that begins with this one
abbrev pub mipmap_level : Level → ℕ → Level
mipmap_level first zero = first
mipmap_level first (suc k) = smaller_level (mipmap_level first k)

-- the levels behind the first, to the one of 1 by 1
unfoldable pub mipmap_levels : Level → List Level
mipmap_levels first = map (λ k. mipmap_level first k) (range_with_len 1 (last_of first))

-- the same levels before they are made, and what they count for limits, by the sides of level 0
abbrev pub last_number : ℕ → ℕ → ℕ
last_number w h = top_bit (max w h)

abbrev pub blank_level : BaseFormat → ℕ → ℕ → Level
blank_level format w h = record { w = w; h = h; format = format; texels = replicate (w * h) 0 }

unfoldable pub blank_levels : ℕ → ℕ → BaseFormat → List Level
blank_levels w h format = map (λ k. blank_level format (halved w k) (halved h k)) (range_with_len 1 (last_number w h))

-- what level k counts
abbrev pub bytes_of_level : ℕ → ℕ → ℕ → ℕ
bytes_of_level w h k = 4 * (halved w k * halved h k)

unfoldable pub mipmap_bytes : ℕ → ℕ → ℕ
mipmap_bytes w h = sum (map (λ k. bytes_of_level w h k) (range_with_len 1 (last_number w h)))

-- a level from which others are made: texels, of sides that an image may have
pub record IsFirst (level : Level) : Type 0 where
  pub filled : IsFilled level
  pub w_least : 1 ≤ level.w
  pub w_most : level.w ≤ 1024
  pub h_least : 1 ≤ level.h
  pub h_most : level.h ≤ 1024

-- the level behind one, if it is there
abbrev pub smaller_of : Option Level → Option Level
smaller_of None = None
smaller_of (Some level) = Some (smaller_level level)

-- a level that isn't 1 by 1, and another with the sides and the format of the one behind it
pub record IsSource (level blank : Level) : Type 0 where
  pub filled : IsFilled level
  pub larger : 2 ≤ level.w * level.h
  pub w : blank.w ≡ halved level.w 1
  pub h : blank.h ≡ halved level.h 1
  pub format : blank.format ≡ level.format
  pub count : IsFilled blank

abbrev pub HasSource : Option Level → Level → Type 0
HasSource None blank = ⊥
HasSource (Some level) blank = IsSource level blank

-- level k of an image, by its levels as they were, where so many levels behind the first have been made
abbrev pub made_level : Level → ℕ → List (Option Level) → ℕ → Option Level
made_level first count levels k = if is_among 1 count k then Some (mipmap_level first k) else slice_index_or levels k None

-- the levels, those behind level 0 to the one of 1 by 1 made of it; levels behind that one stay
abbrev pub remade_from : Option Level → List (Option Level) → List (Option Level)
remade_from None levels = levels
remade_from (Some first) levels = map (λ k. made_level first (last_of first) levels k) (range_with_len 0 11)

unfoldable pub remade : ImageSet → ImageSet
remade set = record { levels = remade_from (level_at set 0) set.levels }

-- there is a first level, and these are the levels behind it before they are made
abbrev pub AreFor : Option Level → List Level → Type 0
AreFor None blanks = ⊥
AreFor (Some first) blanks = IsFirst first × (blanks ≡ blank_levels first.w first.h first.format)

-- what level k counts once the levels behind a level 0 of w by h are made, by the levels as they were
abbrev pub bytes_then : List (Option Level) → ℕ → ℕ → ℕ → ℕ
bytes_then levels w h k = if is_among 1 (last_number w h) k then bytes_of_level w h k else level_bytes (slice_index_or levels k None)

-- what all levels behind level 0 count then
unfoldable pub bytes_behind : ImageSet → ℕ → ℕ → ℕ
bytes_behind set w h = sum (map (λ k. bytes_then set.levels w h k) (range_with_len 1 10))

-- what the image counts then
abbrev pub bytes_remade : Option Level → ImageSet → ℕ
bytes_remade None set = 0
bytes_remade (Some first) set = 4 * (first.w * first.h) + bytes_behind set first.w first.h
