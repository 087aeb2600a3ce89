-- What a sampler and a last level fix for the choice of levels at all pixels, and choices by it.
use Rattle.std.specs.Prelude.{ℕ, ℤ, Bool, List, false, int_le, slice_index_or, unsigned_abs, if◌then◌else◌}
use Rattle.gl_records.specs.declared.level_choice.LevelChoice.{LevelChoice}
use Rattle.gl_records.specs.declared.sampler.Sampler.{Sampler}
use Rattle.gl_records.specs.LevelChoice.{is_linear, single, threshold}
use Rattle.texel_sampler.specs.declared.choice.Choosing.{Choosing}

-- what they fix
abbrev pub fixed_by : Sampler → ℕ → Choosing
fixed_by sampler last = record { last = last; threshold = threshold sampler; mag = is_linear sampler.mag; min = is_linear sampler.min }

-- the choice for a lambda in 1/256, where a minified texture is read by `levels`
abbrev pub chosen_from : (levels : Bool → ℕ → ℕ → LevelChoice) → Choosing → ℤ → LevelChoice
chosen_from levels choosing detail =
    if int_le detail choosing.threshold then single choosing.mag 0 else levels choosing.min choosing.last (unsigned_abs detail)

-- element i of a row of choices
abbrev pub choice_at : List LevelChoice → ℕ → LevelChoice
choice_at choices i = slice_index_or choices i (single false 0)
