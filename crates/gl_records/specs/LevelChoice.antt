-- Which levels of an image are read, and how (OpenGL ES 1.1.12, 3.7, "Texture Minification" and "Texture
-- Magnification"), for a lambda in 1/256.
use Rattle.std.specs.Prelude.{ℕ, ℤ, pos, ◌+◌, ◌-◌, ◌/◌, ◌%◌, Bool, true, false, int_le, min, nat_lt, unsigned_abs, if◌then◌else◌}
use Rattle.gl_tokens.specs.declared.filter.Filter.{Filter}
use Rattle.gl_tokens.specs.declared.filter.Filter.TheVariants.{Nearest, Linear, NearestMipmapNearest, LinearMipmapNearest, NearestMipmapLinear, LinearMipmapLinear}
use Rattle.gl_records.specs.declared.level_choice.LevelChoice.{LevelChoice}
use Rattle.gl_records.specs.declared.sampler.Sampler.{Sampler}
use Rattle.gl_records.specs.LevelOfDetail.{lambda}

-- inside of a level the filter weights four texels, and does not take the nearest alone
abbrev pub is_linear : Filter → Bool
is_linear Nearest = false
is_linear Linear = true
is_linear NearestMipmapNearest = false
is_linear LinearMipmapNearest = true
is_linear NearestMipmapLinear = false
is_linear LinearMipmapLinear = true

-- the filter MAG is LINEAR, and MIN is NEAREST_MIPMAP_NEAREST or NEAREST_MIPMAP_LINEAR
abbrev pub is_sharper_minified : Filter → Filter → Bool
is_sharper_minified Linear NearestMipmapNearest = true
is_sharper_minified Linear NearestMipmapLinear = true
is_sharper_minified mag min = false

-- the greatest lambda at which the texture is magnified: 0.5 for those filters, else 0
abbrev pub threshold : Sampler → ℤ
threshold sampler = if is_sharper_minified sampler.mag sampler.min then pos 128 else pos 0

-- one level
abbrev pub single : Bool → ℕ → LevelChoice
single linear level = record { linear = linear; level = level; weight = 0 }

-- the level nearest to a lambda above 0, the lower of two that are equally near, at most the last
abbrev pub nearest_level : ℕ → ℕ → ℕ
nearest_level last detail = min ((detail + 128 + 255) / 256 - 1) last

-- the level below a lambda, and how much the next one counts; the last level alone from there on
abbrev pub two_levels : Bool → ℕ → ℕ → LevelChoice
two_levels linear last detail =
    if nat_lt (detail / 256) last then record { linear = linear; level = detail / 256; weight = detail % 256 } else single linear last

-- where the texture is minified, for a lambda above 0
abbrev pub minified : Filter → ℕ → ℕ → LevelChoice
minified Nearest last detail = single false 0
minified Linear last detail = single true 0
minified NearestMipmapNearest last detail = single false (nearest_level last detail)
minified LinearMipmapNearest last detail = single true (nearest_level last detail)
minified NearestMipmapLinear last detail = two_levels false last detail
minified LinearMipmapLinear last detail = two_levels true last detail

-- by lambda
abbrev pub chosen_at : Sampler → ℕ → ℤ → LevelChoice
chosen_at sampler last detail =
    if int_le detail (threshold sampler) then single (is_linear sampler.mag) 0 else minified sampler.min last (unsigned_abs detail)

-- by the last level and rho
unfoldable pub chosen : Sampler → ℕ → ℕ → LevelChoice
chosen sampler last scale = chosen_at sampler last (lambda scale)
