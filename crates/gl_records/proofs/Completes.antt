-- What a complete image has.
use Rattle.std.proofs.Common.{◌≡◌, ℕ, zero, suc, ◌<◌, ◌≤◌, ◌+◌, ◌==◌, ◌&&◌, ◌||◌, not, Bool, true, false, Option, Some, None, refl, add-one, arith}
use Rattle.gl_tokens.specs.BaseFormat.{code_of}
use Rattle.gl_records.specs.declared.level.ImageSet.{ImageSet}
use Rattle.gl_records.specs.declared.level.Level.{Level}
use Rattle.gl_records.specs.declared.sampler.Sampler.{Sampler}
use Rattle.gl_records.specs.Complete.{has_chain, halved, is_complete, is_complete_from, is_continued, is_empty, is_empty_level, is_mipmap, last_level, last_level_of, last_of, level_at}
use Rattle.gl_records.proofs.Ranges.{passes_at}

-- of a conjunction that holds, each part does
both : (a b : Bool) → (a && b) ≡ true → (a ≡ true) × (b ≡ true)
both true true h = (refl, refl)
both true false h = absurd (cc)
both false b h = absurd (cc)

first_of_four : (a b c d : Bool) → (a && b && c && d) ≡ true → a ≡ true
first_of_four true b c d h = refl
first_of_four false b c d h = absurd (cc)

no : (a : Bool) → not a ≡ true → a ≡ false
no true h = absurd (cc)
no false h = refl

other : (a b : Bool) → (not a || b) ≡ true → a ≡ true → b ≡ true
other true true h here = refl
other true false h here = absurd (cc)
other false b h here = absurd (cc)

-- level 0 has texels, and the filter that magnifies reads one level
from_first : (set : ImageSet) (sampler : Sampler) (level : Option Level) → is_complete_from set sampler level ≡ true → (is_empty level ≡ false) × (is_mipmap sampler.mag ≡ false)
from_first set sampler None h = absurd (cc)
from_first set sampler (Some first) h =
    let parts = both (not (is_empty_level first) && not (is_mipmap sampler.mag)) _ h in
    let front = both (not (is_empty_level first)) (not (is_mipmap sampler.mag)) parts.0 in
    (no _ front.0, no _ front.1)

pub complete-first : (set : ImageSet) (sampler : Sampler) → is_complete set sampler ≡ true → is_empty (level_at set 0) ≡ false
unfolding is_complete
complete-first set sampler h = (from_first set sampler (level_at set 0) h).0

pub complete-mag : (set : ImageSet) (sampler : Sampler) → is_complete set sampler ≡ true → is_mipmap sampler.mag ≡ false
unfolding is_complete
complete-mag set sampler h = (from_first set sampler (level_at set 0) h).1

-- what continues an image has texels
continued : (first : Level) (k : ℕ) (level : Option Level) → is_continued first k level ≡ true → is_empty level ≡ false
continued first k None h = absurd (cc)
continued first k (Some level) h =
    no _ (first_of_four (not (is_empty_level level)) (level.w == halved first.w k) (level.h == halved first.h k) (code_of level.format == code_of first.format) h)

-- where the filter that minifies reads several levels, those behind level 0 have texels to the last
from_chain : (set : ImageSet) (sampler : Sampler) (level : Option Level) (k : ℕ) → is_complete_from set sampler level ≡ true → is_mipmap sampler.min ≡ true → k < last_level_of level → is_empty (level_at set (k + 1)) ≡ false
from_chain set sampler None k h mipmap below = absurd (cc)
from_chain set sampler (Some first) k h mipmap below =
    let parts = both (not (is_empty_level first) && not (is_mipmap sampler.mag)) (not (is_mipmap sampler.min) || has_chain set first) h in
    let chain = other (is_mipmap sampler.min) (has_chain set first) parts.1 mipmap in
    continued first (k + 1) (level_at set (k + 1)) (passes_at (λ i. is_continued first i (level_at set i)) (last_of first) k below chain)

pub complete-next : (set : ImageSet) (sampler : Sampler) (k : ℕ) → is_complete set sampler ≡ true → is_mipmap sampler.min ≡ true → k < last_level set → is_empty (level_at set (k + 1)) ≡ false
unfolding is_complete last_level
complete-next set sampler k h mipmap below = from_chain set sampler (level_at set 0) k h mipmap below

pub complete-level : (set : ImageSet) (sampler : Sampler) (k : ℕ) → is_complete set sampler ≡ true → is_mipmap sampler.min ≡ true → k ≤ last_level set → is_empty (level_at set k) ≡ false
complete-level set sampler zero h mipmap within = complete-first set sampler h
complete-level set sampler (suc k) h mipmap within = rw (add-one k) at (complete-next set sampler k h mipmap (omega arith))
