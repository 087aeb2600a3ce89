-- Choices of levels: that a complete image has them, and whether they go by rho.
use Rattle.std.proofs.Common.{◌≡◌, ℕ, ◌≤◌, ◌/◌, ◌%◌, Bool, true, false, nat_lt, arith, refl}
use Rattle.std.specs.Prelude.{if◌then◌else◌, int_le, unsigned_abs}
use Rattle.std.proofs.lemmas.Bool.{ltb-true}
use Rattle.gl_tokens.specs.declared.filter.Filter.{Filter}
use Rattle.gl_tokens.specs.declared.filter.Filter.TheVariants.{Nearest, Linear, NearestMipmapNearest, LinearMipmapNearest, NearestMipmapLinear, LinearMipmapLinear}
use Rattle.gl_records.specs.declared.level.ImageSet.{ImageSet}
use Rattle.gl_records.specs.declared.level_choice.LevelChoice.{LevelChoice}
use Rattle.gl_records.specs.declared.sampler.Sampler.{Sampler}
use Rattle.gl_records.specs.Complete.{is_complete, is_mipmap, last_level}
use Rattle.gl_records.specs.LevelChoice.{chosen, is_linear, minified, nearest_level, single, threshold, two_levels}
use Rattle.gl_records.specs.LevelOfDetail.{lambda}
use Rattle.gl_records.specs.Sampling.{HasLevels}
use Rattle.gl_records.proofs.Completes.{complete-first, complete-level, complete-next}

-- level 0
HasLevels-first : (set : ImageSet) (sampler : Sampler) (linear : Bool) → is_complete set sampler ≡ true → HasLevels set (single linear 0)
HasLevels-first set sampler linear h = record { first = complete-first set sampler h; second = λ counts. absurd (omega (arith, counts)) }

-- a level to the last
HasLevels-single : (set : ImageSet) (sampler : Sampler) (linear : Bool) (k : ℕ) → is_complete set sampler ≡ true → is_mipmap sampler.min ≡ true → k ≤ last_level set → HasLevels set (single linear k)
HasLevels-single set sampler linear k h mipmap within =
    record { first = complete-level set sampler k h mipmap within; second = λ counts. absurd (omega (arith, counts)) }

-- two levels
HasLevels-two : (set : ImageSet) (sampler : Sampler) (linear : Bool) (detail : ℕ) → is_complete set sampler ≡ true → is_mipmap sampler.min ≡ true → HasLevels set (two_levels linear (last_level set) detail)
HasLevels-two set sampler linear detail h mipmap = by_test (nat_lt (detail / 256) (last_level set)) refl
  where
    by_test : (below : Bool) → nat_lt (detail / 256) (last_level set) ≡ below
        → HasLevels set (if below then record { linear = linear; level = detail / 256; weight = detail % 256 } else single linear (last_level set))
    by_test true is =
        let within = ltb-true (detail / 256) (last_level set) is in
        record { first = complete-level set sampler (detail / 256) h mipmap (omega arith); second = λ _. complete-next set sampler (detail / 256) h mipmap within }
    by_test false is = HasLevels-single set sampler linear (last_level set) h mipmap (omega arith)

-- where the texture is minified
HasLevels-minified : (set : ImageSet) (sampler : Sampler) (filter : Filter) (detail : ℕ) → is_complete set sampler ≡ true → is_mipmap sampler.min ≡ is_mipmap filter → HasLevels set (minified filter (last_level set) detail)
HasLevels-minified set sampler Nearest detail h is = HasLevels-first set sampler false h
HasLevels-minified set sampler Linear detail h is = HasLevels-first set sampler true h
HasLevels-minified set sampler NearestMipmapNearest detail h is = HasLevels-single set sampler false (nearest_level (last_level set) detail) h is (omega arith)
HasLevels-minified set sampler LinearMipmapNearest detail h is = HasLevels-single set sampler true (nearest_level (last_level set) detail) h is (omega arith)
HasLevels-minified set sampler NearestMipmapLinear detail h is = HasLevels-two set sampler false detail h is
HasLevels-minified set sampler LinearMipmapLinear detail h is = HasLevels-two set sampler true detail h is

-- one of two choices
HasLevels-either : (set : ImageSet) (test : Bool) (one other : LevelChoice) → HasLevels set one → HasLevels set other → HasLevels set (if test then one else other)
HasLevels-either set true one other p q = p
HasLevels-either set false one other p q = q

-- a complete image has the levels of each choice
pub HasLevels-chosen : (set : ImageSet) (sampler : Sampler) (scale : ℕ) → is_complete set sampler ≡ true → HasLevels set (chosen sampler (last_level set) scale)
unfolding chosen
HasLevels-chosen set sampler scale h =
    HasLevels-either set (int_le (lambda scale) (threshold sampler)) (single (is_linear sampler.mag) 0) (minified sampler.min (last_level set) (unsigned_abs (lambda scale)))
    (HasLevels-first set sampler (is_linear sampler.mag) h)
    (HasLevels-minified set sampler sampler.min (unsigned_abs (lambda scale)) h refl)
