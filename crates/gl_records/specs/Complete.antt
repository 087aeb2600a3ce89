-- Which textures are complete (OpenGL ES 1.1.12, 3.7, "Texture Completeness"): only these are sampled.
use Rattle.std.specs.Prelude.{ℕ, ◌*◌, ◌/◌, ◌^◌, ◌==◌, max, Bool, true, false, ◌&&◌, ◌||◌, not, Option, Some, None, length, slice_index_or}
use Rattle.std.specs.List.{list_all, range_with_len}
use Rattle.gl_tokens.specs.BaseFormat.{code_of}
use Rattle.gl_tokens.specs.declared.filter.Filter.{Filter}
use Rattle.gl_tokens.specs.declared.filter.Filter.TheVariants.{Nearest, Linear, NearestMipmapNearest, LinearMipmapNearest, NearestMipmapLinear, LinearMipmapLinear}
use Rattle.gl_records.specs.declared.level.ImageSet.{ImageSet}
use Rattle.gl_records.specs.declared.level.Level.{Level}
use Rattle.gl_records.specs.declared.sampler.Sampler.{Sampler}
use Rattle.gl_records.specs.TopBit.{top_bit}

-- level k of the image, where it was given
abbrev pub level_at : ImageSet → ℕ → Option Level
level_at set k = slice_index_or set.levels k None

-- a level without texels: it was never given, a side of it is 0, or its texels aren't as many as its sides say
abbrev pub is_empty_level : Level → Bool
is_empty_level level = level.w == 0 || level.h == 0 || not (length level.texels == level.w * level.h)

abbrev pub is_empty : Option Level → Bool
is_empty None = true
is_empty (Some level) = is_empty_level level

-- a side of level k: halved k times, rounded down, and at least 1
abbrev pub halved : ℕ → ℕ → ℕ
halved side k = max (side / 2 ^ k) 1

-- what a level has as level k of an image that begins with this one: texels, halved sides and its format
abbrev pub continues : Level → ℕ → Level → Bool
continues first k level =
    not (is_empty_level level) && level.w == halved first.w k && level.h == halved first.h k && code_of level.format == code_of first.format

abbrev pub is_continued : Level → ℕ → Option Level → Bool
is_continued first k None = false
is_continued first k (Some level) = continues first k level

-- the number of the last level, 1 by 1, of an image that begins with this level
abbrev pub last_of : Level → ℕ
last_of first = top_bit (max first.w first.h)

-- the same of an image; 0 where it has no level 0
abbrev pub last_level_of : Option Level → ℕ
last_level_of None = 0
last_level_of (Some first) = last_of first

unfoldable pub last_level : ImageSet → ℕ
last_level set = last_level_of (level_at set 0)

-- a filter that reads levels behind level 0
abbrev pub is_mipmap : Filter → Bool
is_mipmap Nearest = false
is_mipmap Linear = false
is_mipmap NearestMipmapNearest = true
is_mipmap LinearMipmapNearest = true
is_mipmap NearestMipmapLinear = true
is_mipmap LinearMipmapLinear = true

-- levels 1 to the last continue level 0
abbrev pub has_chain : ImageSet → Level → Bool
has_chain set first = list_all (λ k. is_continued first k (level_at set k)) (range_with_len 1 (last_of first))

-- level 0 can be read, and so can the others where the filter asks for them
abbrev pub is_complete_from : ImageSet → Sampler → Option Level → Bool
is_complete_from set sampler None = false
is_complete_from set sampler (Some first) =
    not (is_empty_level first) && not (is_mipmap sampler.mag) && (not (is_mipmap sampler.min) || has_chain set first)

-- the image is complete for these filters
unfoldable pub is_complete : ImageSet → Sampler → Bool
is_complete set sampler = is_complete_from set sampler (level_at set 0)
