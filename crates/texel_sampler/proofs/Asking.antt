-- Whether a choice of levels goes by rho.
use Rattle.std.proofs.Common.{◌≡◌, ◌∙◌, ℕ, ◌<◌, ◌/◌, ◌%◌, ◌^◌, Bool, true, false, nat_lt, not, ap, arith, refl, sym}
use mathlib.Core.Bool.{beq}
use Rattle.std.proofs.lemmas.Bool.{ltb-false}
use Rattle.std.specs.Prelude.{pos, negsuc, if◌then◌else◌, int_le, unsigned_abs}
use Rattle.std.specs.Int.Count.{count_leading_zeros}
use Rattle.gl_tokens.specs.declared.filter.Filter.{Filter}
use Rattle.gl_tokens.specs.declared.filter.Filter.TheVariants.{Nearest, Linear, NearestMipmapNearest, LinearMipmapNearest, NearestMipmapLinear, LinearMipmapLinear}
use Rattle.gl_records.specs.declared.level_choice.LevelChoice.{LevelChoice}
use Rattle.gl_records.specs.declared.sampler.Sampler.{Sampler}
use Rattle.gl_records.specs.Complete.{is_mipmap}
use Rattle.gl_records.specs.LevelChoice.{chosen, chosen_at, is_linear, is_sharper_minified, minified, nearest_level, single, threshold, two_levels}
use Rattle.gl_records.specs.LevelOfDetail.{lambda}
use Rattle.gl_records.specs.TopBit.{top_bit}

-- ---- choices that are one

either : (test : Bool) (one other : LevelChoice) → other ≡ one → (if test then one else other) ≡ one
either true one other is = refl
either false one other is = is

-- where minifying always gives the choice of magnifying, rho isn't asked for
all_same : (sampler : Sampler) (last : ℕ) → ((detail : ℕ) → minified sampler.min last detail ≡ single (is_linear sampler.mag) 0) → (scale : ℕ) → chosen sampler last scale ≡ single (is_linear sampler.mag) 0
unfolding chosen
all_same sampler last same scale =
    either (int_le (lambda scale) (threshold sampler)) (single (is_linear sampler.mag) 0) (minified sampler.min last (unsigned_abs (lambda scale))) (same (unsigned_abs (lambda scale)))

pub unasked : (sampler : Sampler) (last : ℕ) → ((detail : ℕ) → minified sampler.min last detail ≡ single (is_linear sampler.mag) 0) → (scale : ℕ) → chosen sampler last scale ≡ chosen sampler last 0
unasked sampler last same scale = all_same sampler last same scale ∙ sym (all_same sampler last same 0)

-- a filter that reads one level
pub minified-one_level : (filter : Filter) (linear : Bool) (last detail : ℕ) → is_linear filter ≡ linear → is_mipmap filter ≡ false → minified filter last detail ≡ single linear 0
minified-one_level Nearest linear last detail is none = ap (λ l. single l 0) is
minified-one_level Linear linear last detail is none = ap (λ l. single l 0) is
minified-one_level NearestMipmapNearest linear last detail is none = absurd (cc)
minified-one_level LinearMipmapNearest linear last detail is none = absurd (cc)
minified-one_level NearestMipmapLinear linear last detail is none = absurd (cc)
minified-one_level LinearMipmapLinear linear last detail is none = absurd (cc)

-- an image of one level
nearest_level-zero : (detail : ℕ) → nearest_level 0 detail ≡ 0
nearest_level-zero detail = omega arith

below_zero : (n : ℕ) → nat_lt n 0 ≡ false
below_zero n = grind arith

two_levels-zero : (linear : Bool) (detail : ℕ) → two_levels linear 0 detail ≡ single linear 0
two_levels-zero linear detail = rw (below_zero (detail / 256)) refl

pub minified-zero : (filter : Filter) (linear : Bool) (detail : ℕ) → is_linear filter ≡ linear → minified filter 0 detail ≡ single linear 0
minified-zero Nearest linear detail is = ap (λ l. single l 0) is
minified-zero Linear linear detail is = ap (λ l. single l 0) is
minified-zero NearestMipmapNearest linear detail is = ap (λ k. single false k) (nearest_level-zero detail) ∙ ap (λ l. single l 0) is
minified-zero LinearMipmapNearest linear detail is = ap (λ k. single true k) (nearest_level-zero detail) ∙ ap (λ l. single l 0) is
minified-zero NearestMipmapLinear linear detail is = two_levels-zero false detail ∙ ap (λ l. single l 0) is
minified-zero LinearMipmapLinear linear detail is = two_levels-zero true detail ∙ ap (λ l. single l 0) is

-- ---- choices that are two: at a rho of 0 and at a great one

lambda-zero : lambda 0 ≡ negsuc 32767
unfolding lambda
lambda-zero = refl

lambda-great : lambda (2 ^ 47) ≡ pos 7936
unfolding lambda top_bit count_leading_zeros
lambda-great = refl

magnified-zero : (sharper : Bool) (one other : LevelChoice) → (if int_le (negsuc 32767) (if sharper then pos 128 else pos 0) then one else other) ≡ one
magnified-zero true one other = refl
magnified-zero false one other = refl

minified-great : (sharper : Bool) (one other : LevelChoice) → (if int_le (pos 7936) (if sharper then pos 128 else pos 0) then one else other) ≡ other
minified-great true one other = refl
minified-great false one other = refl

pub chosen-zero : (sampler : Sampler) (last : ℕ) → chosen sampler last 0 ≡ single (is_linear sampler.mag) 0
unfolding chosen
chosen-zero sampler last =
    ap (λ detail. chosen_at sampler last detail) lambda-zero
    ∙ magnified-zero (is_sharper_minified sampler.mag sampler.min) (single (is_linear sampler.mag) 0) (minified sampler.min last 32768)

chosen-great : (sampler : Sampler) (last : ℕ) → chosen sampler last (2 ^ 47) ≡ minified sampler.min last 7936
unfolding chosen
chosen-great sampler last =
    ap (λ detail. chosen_at sampler last detail) lambda-great
    ∙ minified-great (is_sharper_minified sampler.mag sampler.min) (single (is_linear sampler.mag) 0) (minified sampler.min last 7936)

-- the filter inside of a level
two_levels-linear : (linear below : Bool) (last detail : ℕ) → (if below then record { linear = linear; level = detail / 256; weight = detail % 256 } else single linear last).linear ≡ linear
two_levels-linear linear true last detail = refl
two_levels-linear linear false last detail = refl

pub minified-linear : (filter : Filter) (last detail : ℕ) → (minified filter last detail).linear ≡ is_linear filter
minified-linear Nearest last detail = refl
minified-linear Linear last detail = refl
minified-linear NearestMipmapNearest last detail = refl
minified-linear LinearMipmapNearest last detail = refl
minified-linear NearestMipmapLinear last detail = two_levels-linear false (nat_lt (detail / 256) last) last detail
minified-linear LinearMipmapLinear last detail = two_levels-linear true (nat_lt (detail / 256) last) last detail

-- so two choices that are one have one filter
pub same-linear : (sampler : Sampler) (last : ℕ) → chosen sampler last (2 ^ 47) ≡ chosen sampler last 0 → is_linear sampler.mag ≡ is_linear sampler.min
same-linear sampler last same =
    ap (λ choice. choice.linear) (sym (chosen-zero sampler last) ∙ sym same ∙ chosen-great sampler last) ∙ minified-linear sampler.min last 7936

-- at the great rho a filter that reads several levels reads none but the last, or level 31
two_levels-level : (linear below : Bool) (last : ℕ) → 0 < last → 0 < (if below then record { linear = linear; level = 31; weight = 0 } else single linear last).level
two_levels-level linear true last above = omega arith
two_levels-level linear false last above = above

minified-level : (filter : Filter) (last : ℕ) → 0 < last → is_mipmap filter ≡ true → 0 < (minified filter last 7936).level
minified-level Nearest last above mipmap = absurd (cc)
minified-level Linear last above mipmap = absurd (cc)
minified-level NearestMipmapNearest last above mipmap = omega arith
minified-level LinearMipmapNearest last above mipmap = omega arith
minified-level NearestMipmapLinear last above mipmap = two_levels-level false (nat_lt 31 last) last above
minified-level LinearMipmapLinear last above mipmap = two_levels-level true (nat_lt 31 last) last above

pub same-level : (sampler : Sampler) (last : ℕ) → 0 < last → is_mipmap sampler.min ≡ true → chosen sampler last (2 ^ 47) ≡ chosen sampler last 0 → ⊥
same-level sampler last above mipmap same =
    let level : (minified sampler.min last 7936).level ≡ 0 = ap (λ choice. choice.level) (sym (chosen-great sampler last) ∙ same ∙ chosen-zero sampler last) in
    omega (arith, level, minified-level sampler.min last above mipmap)

-- ---- what `!=` tells

pub equal-from : (a b : Bool) → not (beq a b) ≡ false → a ≡ b
equal-from true true is = refl
equal-from true false is = absurd (cc)
equal-from false true is = absurd (cc)
equal-from false false is = refl

pub unequal-from : (a b : Bool) → not (beq a b) ≡ true → a ≡ b → ⊥
unequal-from true true is same = absurd (cc)
unequal-from true false is same = cc
unequal-from false true is same = cc
unequal-from false false is same = absurd (cc)

pub zero-from : (n : ℕ) → nat_lt 0 n ≡ false → n ≡ 0
zero-from n is = omega (arith, ltb-false 0 n is)
