-- What a row of choices, and a row of texels by them, is for a sampler.
use Rattle.std.proofs.Common.{◌≡◌, ◌∙◌, ◌<◌, ℕ, Bool, true, false, List, [], get_or, ap, subst, sym}
use Rattle.std.specs.Prelude.{ℤ, int_le, slice_index, unsigned_abs, if◌then◌else◌}
use Rattle.std.specs.Int.{bit_at}
use Rattle.fx_arith.specs.declared.fx.Fx.{Fx}
use Rattle.fx_arith.specs.Number.{component}
use Rattle.gl_tokens.specs.declared.wrap.Wrap.{Wrap}
use Rattle.gl_records.specs.declared.level.ImageSet.{ImageSet}
use Rattle.gl_records.specs.declared.level_choice.LevelChoice.{LevelChoice}
use Rattle.gl_records.specs.declared.sampler.Sampler.{Sampler}
use Rattle.gl_records.specs.Complete.{is_complete, last_level}
use Rattle.gl_records.specs.LevelChoice.{chosen, is_linear, minified, single, threshold}
use Rattle.gl_records.specs.LevelOfDetail.{lambda}
use Rattle.gl_records.specs.Sampling.{HasLevels, filtered, texel_of}
use Rattle.texel_sampler.specs.Choosings.{choice_at}
use Rattle.texel_sampler.specs.Wraps.{wrapping}
use Rattle.texel_sampler.proofs.Asking.{chosen-zero, minified-linear}
use Rattle.texel_sampler.proofs.ByWraps.{filtered-wraps}
use Rattle.texel_sampler.proofs.Choices.{HasLevels-chosen}

-- the filter inside of a level, where MAG and MIN have the same
either-linear : (test linear : Bool) (one other : LevelChoice) → one.linear ≡ linear → other.linear ≡ linear → (if test then one else other).linear ≡ linear
either-linear true linear one other p q = p
either-linear false linear one other p q = q

chosen-linear : (sampler : Sampler) (last rho : ℕ) (linear : Bool) → is_linear sampler.mag ≡ linear → is_linear sampler.min ≡ linear → (chosen sampler last rho).linear ≡ linear
unfolding chosen
chosen-linear sampler last rho linear mag min =
    either-linear (int_le (lambda rho) (threshold sampler)) linear (single (is_linear sampler.mag) 0) (minified sampler.min last (unsigned_abs (lambda rho)))
    mag (minified-linear sampler.min last (unsigned_abs (lambda rho)) ∙ min)

-- choices of a row, each for the rho of its pixel
module _ (set : ImageSet) (sampler : Sampler) (last bits : ℕ) (choices : List LevelChoice) (rhos : List ℕ)
    (chosen_each : (i : ℕ) → i < 16 → bit_at bits i ≡ 1 → choice_at choices i ≡ chosen sampler last (slice_index rhos i)) where
  pub row-levels : is_complete set sampler ≡ true → last ≡ last_level set → (i : ℕ) → i < 16 → bit_at bits i ≡ 1 → HasLevels set (choice_at choices i)
  row-levels complete is i inside set_is =
      subst (HasLevels set) (sym (chosen_each i inside set_is ∙ ap (λ k. chosen sampler k (slice_index rhos i)) is)) (HasLevels-chosen set sampler (slice_index rhos i) complete)

  pub row-linear : (linear : Bool) → is_linear sampler.mag ≡ linear → is_linear sampler.min ≡ linear → (i : ℕ) → i < 16 → bit_at bits i ≡ 1 → (choice_at choices i).linear ≡ linear
  row-linear linear mag min i inside set_is = ap (λ choice. choice.linear) (chosen_each i inside set_is) ∙ chosen-linear sampler last (slice_index rhos i) linear mag min

  pub row-texels : (s t : List Fx) (texels : List (List ℕ)) (wrap_s wrap_t : Wrap)
      → last ≡ last_level set → sampler.wrap_s ≡ wrap_s → sampler.wrap_t ≡ wrap_t
      → ((i : ℕ) → i < 16 → bit_at bits i ≡ 1 → get_or texels i [] ≡ filtered set (wrapping wrap_s wrap_t) (choice_at choices i) (component s i) (component t i))
      → (i : ℕ) → i < 16 → bit_at bits i ≡ 1 → get_or texels i [] ≡ texel_of set sampler (component s i) (component t i) (slice_index rhos i)
  row-texels s t texels wrap_s wrap_t is p q each i inside set_is =
      each i inside set_is
      ∙ filtered-wraps set sampler (choice_at choices i) (component s i) (component t i) wrap_s wrap_t p q
      ∙ ap (λ choice. filtered set sampler choice (component s i) (component t i)) (chosen_each i inside set_is ∙ ap (λ k. chosen sampler k (slice_index rhos i)) is)

-- where the choice doesn't go by rho, it is level 0 by the filter MAG
pub unasked-texel : (set : ImageSet) (sampler : Sampler) (texel : List ℕ) (s t : ℤ) (rho : ℕ) (linear : Bool) (wrap_s wrap_t : Wrap)
    → chosen sampler (last_level set) rho ≡ chosen sampler (last_level set) 0
    → linear ≡ is_linear sampler.mag → sampler.wrap_s ≡ wrap_s → sampler.wrap_t ≡ wrap_t
    → texel ≡ filtered set (wrapping wrap_s wrap_t) (single linear 0) s t → texel ≡ texel_of set sampler s t rho
unasked-texel set sampler texel s t rho linear wrap_s wrap_t same by p q is =
    is ∙ filtered-wraps set sampler (single linear 0) s t wrap_s wrap_t p q
    ∙ ap (λ choice. filtered set sampler choice s t) (ap (λ l. single l 0) by ∙ sym (chosen-zero sampler (last_level set)) ∙ sym same)
