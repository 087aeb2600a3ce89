use Rattle.std.proofs.Common.{◌≡◌, ◌<◌, ℕ, length}
use Rattle.image_levels.specs.SubImage.{replaced_texel}
use Rattle.image_levels.specs.Texels.{texel_of}
use Rattle.image_levels.proofs.sub_image.put_rows.Given as goal

abbrev pub invariant-loop-row : goal.invariant-loop-row
invariant-loop-row l = record {
  count : length l.into ≡ length l.fn.into;
  so_far : (x y : ℕ) → x < l.across → y < l.up → texel_of l.across l.into x y ≡ replaced_texel l.across l.fn.area l.row l.fn.into l.texels x y;
}
