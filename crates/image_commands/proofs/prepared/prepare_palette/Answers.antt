use Rattle.image_commands.proofs.Preparing.{prepared-palette}
use Rattle.image_commands.proofs.prepared.prepare_palette.Goals as goal

pub returns : goal.returns
returns c =
    prepared-palette c.args.image.now c.args.format c.args.w c.args.h c.args.levels c.args.remakes c.args.align c.args.piece.now c.in_ok-all.all
    c.requires.good c.requires.possible c.in_ok-all.ensures.value c.in_ok-all.ensures.count
