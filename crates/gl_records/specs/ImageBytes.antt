-- What the levels of a texture's image hold (this project's profile): the bytes that count for limits, and an image
-- of which no level was given.
use Rattle.std.specs.Prelude.{ℕ, ◌*◌, Option, None, Some, length, replicate}
use Rattle.std.specs.List.{sum_by}
use Rattle.gl_records.specs.declared.level.Level.{Level}
use Rattle.gl_records.specs.declared.level.ImageSet.{ImageSet}

-- a level counts 4 bytes for each texel, and one that was never given counts none
abbrev pub level_bytes : Option Level → ℕ
level_bytes None = 0
level_bytes (Some level) = 4 * length level.texels

-- an image counts those of all its levels
unfoldable pub image_bytes : ImageSet → ℕ
image_bytes set = sum_by level_bytes set.levels

-- no level of it was given
abbrev pub empty_image : ImageSet
empty_image = record { levels = replicate 11 None }
