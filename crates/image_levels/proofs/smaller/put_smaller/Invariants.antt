use Rattle.std.proofs.Common.{◌≡◌, ◌<◌, ℕ, length}
use Rattle.gl_records.specs.Complete.{halved}
use Rattle.image_levels.specs.Mipmaps.{smaller_texel}
use Rattle.image_levels.specs.Texels.{texel_of}
use Rattle.image_levels.proofs.smaller.put_smaller.Given as goal

abbrev pub invariant-loop-y : goal.invariant-loop-y
invariant-loop-y l = record {
  count : length l.into ≡ length l.fn.into;
  made : (x y : ℕ) → x < halved l.w 1 → y < l.y → texel_of (halved l.w 1) l.into x y ≡ smaller_texel l.w l.h l.texels x y;
}
