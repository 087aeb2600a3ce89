-- The texels of a level, by rows from the bottom, each from the left (OpenGL ES 1.1.12, 3.7.1).
use Rattle.std.specs.Prelude.{ℕ, ◌+◌, ◌*◌, ◌≡◌, List, length, map, slice_index}
use Rattle.std.specs.List.{flat_map, range_with_len}
use Rattle.gl_records.specs.declared.level.Level.{Level}

-- the texel in column x and row y, of rows of so many texels
abbrev pub texel_of : ℕ → List ℕ → ℕ → ℕ → ℕ
texel_of across texels x y = slice_index texels (y * across + x)

-- rows of w texels, h of them, each texel by its column and row
unfoldable pub texels_by : ℕ → ℕ → (ℕ → ℕ → ℕ) → List ℕ
texels_by w h texel = flat_map (λ y. map (λ x. texel x y) (range_with_len 0 w)) (range_with_len 0 h)

-- a level has as many texels as its sides say
abbrev pub IsFilled : Level → Type 0
IsFilled level = length level.texels ≡ level.w * level.h
