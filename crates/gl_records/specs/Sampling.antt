-- The texel of an image at coordinates S and T (OpenGL ES 1.1.12, 3.7, "Texture Minification" and "Texture
-- Magnification"): the choice of levels, what each gives, and their blend.
use Rattle.std.specs.Prelude.{◌≡◌, ℕ, ℤ, ◌+◌, ◌-◌, ◌*◌, ◌/◌, ◌<◌, Bool, false, List, [], ◌∷◌, Option, Some, None, slice_index}
use Rattle.gl_records.specs.declared.level.ImageSet.{ImageSet}
use Rattle.gl_records.specs.declared.level.Level.{Level}
use Rattle.gl_records.specs.declared.level_choice.LevelChoice.{LevelChoice}
use Rattle.gl_records.specs.declared.sampler.Sampler.{Sampler}
use Rattle.gl_records.specs.Color.{color_of}
use Rattle.gl_records.specs.Complete.{is_empty, last_level, level_at}
use Rattle.gl_records.specs.LevelChoice.{chosen}
use Rattle.gl_records.specs.Texel.{level_texel}

-- the levels of a choice hold texels: the first, and the second where it counts
pub record HasLevels (set : ImageSet) (choice : LevelChoice) : Type 0 where
  pub first : is_empty (level_at set choice.level) ≡ false
  pub second : 0 < choice.weight → is_empty (level_at set (choice.level + 1)) ≡ false

-- what a level gives, and 0 where it was never given
abbrev pub level_color : Bool → Sampler → Option Level → ℤ → ℤ → List ℕ
level_color linear sampler None s t = 0 ∷ 0 ∷ 0 ∷ 0 ∷ []
level_color linear sampler (Some level) s t = level_texel linear sampler level s t

-- component k of two levels' colours, of which the second counts so much, in 1/256; rounded to the nearest
abbrev pub blended : ℕ → (first second : List ℕ) → ℕ → ℕ
blended weight first second k = ((256 - weight) * slice_index first k + weight * slice_index second k + 128) / 256

-- what the choice's levels give, blended
unfoldable pub filtered : ImageSet → Sampler → LevelChoice → ℤ → ℤ → List ℕ
filtered set sampler choice s t =
    color_of (blended choice.weight
    (level_color choice.linear sampler (level_at set choice.level) s t)
    (level_color choice.linear sampler (level_at set (choice.level + 1)) s t))

-- the texel of an image at S and T, for a rho in 1/65536 texel
abbrev pub texel_of : ImageSet → Sampler → (s t : ℤ) → ℕ → List ℕ
texel_of set sampler s t scale = filtered set sampler (chosen sampler (last_level set) scale) s t
