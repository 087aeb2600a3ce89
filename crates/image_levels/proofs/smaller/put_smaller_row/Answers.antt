use Rattle.std.proofs.Common.{◌<◌, ◌+◌, ◌*◌, length, arith, ◌∙◌}
use Rattle.gl_records.specs.Complete.{halved}
use Rattle.image_levels.specs.Mipmaps.{smaller_texel}
use Rattle.std.proofs.lemmas.List.{length-set}
use Rattle.std.proofs.lemmas.Nat.{mul-add-lt}
use Rattle.image_levels.proofs.Rows.{row-below, row-more}
use Rattle.image_levels.proofs.smaller.put_smaller_row.Goals as goal

pub loop-x-preserved : goal.loop-x-preserved
loop-x-preserved c =
    let across = halved c.args.w 1 in
    let across-is = c.from-across.ensures ∙ c.halved.ensures in
    let column : c.loop-x.x < across = omega (arith, c.loop-x-test.true, across-is) in
    let place = mul-add-lt c.args.y across c.loop-x.x (halved c.args.h 1) c.requires.row column in
    let inside : c.args.y * across + c.loop-x.x < length c.loop-x.into = omega (arith, place, c.loop-x.invariant.count, c.requires.count) in
    rw across-is (record {
      count = length-set c.loop-x.into (c.args.y * across + c.loop-x.x) c.smaller_texel.result ∙ c.loop-x.invariant.count;
      made = row-more c.loop-x.into (λ x. smaller_texel c.args.w c.args.h c.args.texels.now x c.args.y) across c.args.y c.loop-x.x c.smaller_texel.result
          inside c.smaller_texel.ensures c.loop-x.invariant.made;
      below = row-below c.loop-x.into c.args.into.now across c.args.y c.loop-x.x c.smaller_texel.result c.loop-x.invariant.below;
    })
