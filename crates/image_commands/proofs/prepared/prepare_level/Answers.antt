use Rattle.std.proofs.Common.{Bool, sym, subst}
use Rattle.image_commands.specs.Prepared.{AreTaken}
use Rattle.image_commands.proofs.Good.{IsFull, new_level-full}
use Rattle.image_commands.proofs.Preparing.{prepared-level}
use Rattle.image_commands.proofs.prepared.prepare_level.Goals as goal

pub blanks_behind-requires : goal.blanks_behind-requires
blanks_behind-requires c =
    subst IsFull (sym c.in_ok-level.ensures)
    (new_level-full c.args.format c.args.kind c.args.w c.args.h c.args.align c.args.piece.now c.requires.possible.w_most c.requires.possible.h_most)

pub returns : goal.returns
returns c =
    let taken = subst (λ (makes : Bool). AreTaken makes c.in_ok-level.level c.in_ok-blanks.blanks) c.makes_levels.ensures c.in_ok-blanks.ensures in
    prepared-level c.args.image.now c.args.k c.args.format c.args.kind c.args.w c.args.h c.args.remakes c.args.align c.args.piece.now
    c.in_ok-level.level c.in_ok-blanks.blanks c.requires.good c.requires.possible c.in_ok-level.ensures taken
