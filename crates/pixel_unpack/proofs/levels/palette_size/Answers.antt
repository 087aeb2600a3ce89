use Rattle.std.proofs.Common.{sym, ◌∙◌, arith}
use Rattle.pixel_unpack.proofs.Palettes.{size-nil, size_more}
use Rattle.pixel_unpack.proofs.levels.palette_size.Goals as goal

pub loop-level-init : goal.loop-level-init
loop-level-init c = record {
  so_far = c.entries_bytes-size.ensures.value ∙ sym (size-nil c.args.format c.args.w c.args.h);
  most = omega arith;
}

pub loop-level-preserved : goal.loop-level-preserved
loop-level-preserved c =
    let more = size_more c.args.format c.args.w c.args.h c.loop-level.level in
    record {
      so_far = cc;
      most = omega arith;
    }
