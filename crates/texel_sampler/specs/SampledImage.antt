-- An image with its sampler.
use Rattle.std.specs.Prelude.{◌≡◌, ℕ, Bool, true, false}
use Rattle.gl_records.specs.declared.level.ImageSet.{ImageSet}
use Rattle.gl_records.specs.declared.level_choice.LevelChoice.{LevelChoice}
use Rattle.gl_records.specs.declared.sampler.Sampler.{Sampler}
use Rattle.gl_records.specs.Complete.{is_complete, last_level}
use Rattle.gl_records.specs.LevelChoice.{chosen}

pub record SampledImage : Type 0 where
  pub set : ImageSet
  pub sampler : Sampler

-- the image is complete for the sampler, and this is what both fix for its choice of levels
pub record IsSampled (image : SampledImage) (last : ℕ) (asks : Bool) (first : LevelChoice) : Type 0 where
  pub complete : is_complete image.set image.sampler ≡ true
  pub last_is : last ≡ last_level image.set
  pub unasked : asks ≡ false → (rho : ℕ) → chosen image.sampler (last_level image.set) rho ≡ chosen image.sampler (last_level image.set) 0
  pub first_is : first ≡ chosen image.sampler (last_level image.set) 0
