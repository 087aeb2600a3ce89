-- What a sampler gives goes by its wrap modes and the choice of levels alone.
use Rattle.std.proofs.Common.{◌≡◌, ◌+◌, Bool, true, false, length, refl, sym}
use Rattle.std.specs.Prelude.{ℤ, Option, Some, None}
use Rattle.gl_tokens.specs.declared.wrap.Wrap.{Wrap}
use Rattle.gl_records.specs.declared.level.ImageSet.{ImageSet}
use Rattle.gl_records.specs.declared.level.Level.{Level}
use Rattle.gl_records.specs.declared.level_choice.LevelChoice.{LevelChoice}
use Rattle.gl_records.specs.declared.sampler.Sampler.{Sampler}
use Rattle.gl_records.specs.Complete.{level_at}
use Rattle.gl_records.specs.LevelChoice.{single}
use Rattle.gl_records.specs.Sampling.{filtered, level_color}
use Rattle.gl_records.specs.Texel.{level_texel}
use Rattle.texel_sampler.specs.Wraps.{wrapping}
use Rattle.texel_sampler.proofs.Blends.{color_alone}

level_texel-wraps : (linear : Bool) (sampler : Sampler) (level : Level) (s t : ℤ)
    → level_texel linear (wrapping sampler.wrap_s sampler.wrap_t) level s t ≡ level_texel linear sampler level s t
unfolding level_texel
level_texel-wraps linear sampler level s t = refl

level_color-wraps : (linear : Bool) (sampler : Sampler) (level : Option Level) (s t : ℤ)
    → level_color linear (wrapping sampler.wrap_s sampler.wrap_t) level s t ≡ level_color linear sampler level s t
level_color-wraps linear sampler None s t = refl
level_color-wraps linear sampler (Some level) s t = level_texel-wraps linear sampler level s t

-- the levels of a choice under the sampler's wrap modes
pub filtered-wraps : (set : ImageSet) (sampler : Sampler) (choice : LevelChoice) (s t : ℤ) (wrap_s wrap_t : Wrap)
    → sampler.wrap_s ≡ wrap_s → sampler.wrap_t ≡ wrap_t
    → filtered set (wrapping wrap_s wrap_t) choice s t ≡ filtered set sampler choice s t
unfolding filtered
filtered-wraps set sampler choice s t wrap_s wrap_t p q =
    rw (← p, ← q, level_color-wraps choice.linear sampler (level_at set choice.level) s t, level_color-wraps choice.linear sampler (level_at set (choice.level + 1)) s t) refl

-- level 0 alone
four : (linear : Bool) (sampler : Sampler) (level : Level) (s t : ℤ) → length (level_texel linear sampler level s t) ≡ 4
unfolding level_texel
four true sampler level s t = refl
four false sampler level s t = refl

pub filtered-first : (set : ImageSet) (sampler : Sampler) (linear : Bool) (level : Level) (s t : ℤ)
    → level_at set 0 ≡ Some level → filtered set sampler (single linear 0) s t ≡ level_texel linear sampler level s t
unfolding filtered
filtered-first set sampler linear level s t is =
    rw is (sym (color_alone (level_texel linear sampler level s t) (level_color linear sampler (level_at set 1) s t) (four linear sampler level s t)))
