-- What the levels of an image count for limits once a palette gives some of them (this project's profile).
use Rattle.std.specs.Prelude.{ℕ, ◌*◌, nat_lt, if◌then◌else◌, map}
use Rattle.std.specs.List.{range_with_len, sum}
use Rattle.gl_records.specs.Complete.{level_at}
use Rattle.gl_records.specs.ImageBytes.{level_bytes}
use Rattle.gl_records.specs.declared.level.ImageSet.{ImageSet}
use Rattle.pixel_unpack.specs.Palette.{level_side}

-- level k, where the palette gives so many from level 0 on, and level 0 is w by h
abbrev pub palette_level_bytes : ImageSet → ℕ → ℕ → ℕ → ℕ → ℕ
palette_level_bytes image w h levels k =
    if nat_lt k levels then 4 * (level_side w k * level_side h k) else level_bytes (level_at image k)

-- all of them
unfoldable pub palette_bytes : ImageSet → ℕ → ℕ → ℕ → ℕ
palette_bytes image w h levels = sum (map (λ k. palette_level_bytes image w h levels k) (range_with_len 0 11))
