use Rattle.std.proofs.Common.{arith, ◌∙◌}
use Rattle.gl_records.specs.Complete.{halved}
use Rattle.image_levels.specs.Mipmaps.{smaller_texel}
use Rattle.image_levels.proofs.Rows.{rows-more, texels_by-is}
use Rattle.image_levels.proofs.smaller.put_smaller.Goals as goal

pub loop-y-preserved : goal.loop-y-preserved
loop-y-preserved c = record {
  count = c.put_smaller_row.ensures.count ∙ c.loop-y.invariant.count;
  made = rows-more c.loop-y.into c.put_smaller_row.new.into (smaller_texel c.args.w c.args.h c.args.texels.now) (halved c.args.w 1) c.loop-y.y
      c.loop-y.invariant.made c.put_smaller_row.ensures.made c.put_smaller_row.ensures.below;
}

pub returns : goal.returns
returns c =
    texels_by-is (halved c.args.w 1) (halved c.args.h 1) (smaller_texel c.args.w c.args.h c.args.texels.now) c.loop-y.into
    (c.loop-y.invariant.count ∙ c.requires.count)
    (λ x y column row. c.loop-y.invariant.made x y column (omega (arith, row, c.loop-y-test.false, c.from-y-end.ensures, c.halved.ensures)))
