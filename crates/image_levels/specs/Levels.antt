-- Levels of an image that are given anew (OpenGL ES 1.1.12, 3.7.1 and 3.7.3).
use Rattle.std.specs.Prelude.{ℕ, Option, None, Some, List, map, slice_get, slice_index_or, slice_set}
use Rattle.std.specs.List.{range_with_len}
use Rattle.gl_records.specs.declared.level.ImageSet.{ImageSet}
use Rattle.gl_records.specs.declared.level.Level.{Level}

-- an image with another level k
abbrev pub with_level : ImageSet → ℕ → Level → ImageSet
with_level set k level = record { levels = slice_set set.levels k (Some level) }

-- level k where a list gives levels from level 0 on: that of the list, else the one that was there
abbrev pub level_or : Option Level → Option Level → Option Level
level_or None old = old
level_or (Some level) old = Some level

abbrev pub given_level : List Level → List (Option Level) → ℕ → Option Level
given_level all old k = level_or (slice_get all k) (slice_index_or old k None)

-- an image with these levels from level 0 on; the others stay
abbrev pub given_levels : List Level → List (Option Level) → List (Option Level)
given_levels all old = map (λ k. given_level all old k) (range_with_len 0 11)

unfoldable pub with_levels : ImageSet → List Level → ImageSet
with_levels set all = record { levels = given_levels all set.levels }
