use Rattle.std.proofs.Common.{◌≡◌, ◌<◌, ◌*◌, ℕ, length, slice_index}
use Rattle.gl_records.specs.Complete.{halved}
use Rattle.image_levels.specs.Mipmaps.{smaller_texel}
use Rattle.image_levels.specs.Texels.{texel_of}
use Rattle.image_levels.proofs.smaller.put_smaller_row.Given as goal

abbrev pub invariant-loop-x : goal.invariant-loop-x
invariant-loop-x l = record {
  count : length l.into ≡ length l.fn.into;
  made : (x : ℕ) → x < l.x → texel_of (halved l.w 1) l.into x l.y ≡ smaller_texel l.w l.h l.texels x l.y;
  below : (k : ℕ) → k < l.y * halved l.w 1 → slice_index l.into k ≡ slice_index l.fn.into k;
}
