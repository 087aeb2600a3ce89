-- The colour about a place, from its parts.
use Rattle.std.proofs.Common.{◌≡◌, ℕ, ◌+◌, ◌*◌, List, refl}
use Rattle.std.specs.Prelude.{ℤ, pos, ◌+ℤ◌, slice_index}
use Rattle.std.specs.Int.{to_le_bytes, w32}
use Rattle.gl_records.specs.declared.level.Level.{Level}
use Rattle.gl_records.specs.declared.sampler.Sampler.{Sampler}
use Rattle.gl_records.specs.Color.{color_of}
use Rattle.gl_records.specs.Texel.{fraction, linear_about, lower, texel_about, weighted, wrapped}

pub linear_about-parts : (sampler : Sampler) (level : Level) (u v i j : ℤ) (a b : ℕ) (low_low high_low low_high high_high : List ℕ)
    → i ≡ lower u → j ≡ lower v → a ≡ fraction u → b ≡ fraction v
    → low_low ≡ texel_about sampler level i j
    → high_low ≡ texel_about sampler level (i +ℤ pos 1) j
    → low_high ≡ texel_about sampler level i (j +ℤ pos 1)
    → high_high ≡ texel_about sampler level (i +ℤ pos 1) (j +ℤ pos 1)
    → color_of (weighted a b low_low high_low low_high high_high) ≡ linear_about sampler level u v
linear_about-parts sampler level u v i j a b ll hl lh hh p q r s w x y z = rw (w, x, y, z, p, q, r, s) refl

pub texel_about-is : (sampler : Sampler) (level : Level) (i j : ℤ) (column row texel : ℕ)
    → column ≡ wrapped sampler.wrap_s level.w i
    → row ≡ wrapped sampler.wrap_t level.h j
    → texel ≡ slice_index level.texels (row * level.w + column)
    → to_le_bytes w32 texel ≡ texel_about sampler level i j
texel_about-is sampler level i j column row texel p q is = rw (is, p, q) refl
