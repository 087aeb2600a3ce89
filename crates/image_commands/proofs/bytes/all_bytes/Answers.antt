use Rattle.std.proofs.Common.{◌∙◌}
use Rattle.image_commands.specs.Written.{IsPalette}
use Rattle.image_commands.proofs.Counting.{palette-counted}
use Rattle.image_commands.proofs.bytes.all_bytes.Goals as goal

pub returns-in-Palette : goal.returns-in-Palette
returns-in-Palette c = λ align piece.
    let possible : IsPalette c.in-Palette.w c.in-Palette.h c.in-Palette.levels = rw c.in-Palette.is at c.requires.possible in
    rw c.in-Palette.is (c.palette_bytes.ensures
    ∙ palette-counted c.args.image.now c.in-Palette.format c.in-Palette.w c.in-Palette.h c.in-Palette.levels c.args.remakes align piece possible)
