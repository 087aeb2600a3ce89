use Rattle.std.proofs.Common.{◌==◌, ◌&&◌, Bool, Option, sym, subst}
use Rattle.gl_records.specs.declared.level.Level.{Level}
use Rattle.image_commands.specs.Prepared.{AreTaken}
use Rattle.image_commands.proofs.Good.{IsFull}
use Rattle.image_commands.proofs.Preparing.{prepared-area}
use Rattle.image_commands.proofs.prepared.prepare_area.Goals as goal

pub blanks_behind-requires : goal.blanks_behind-requires
blanks_behind-requires c = subst IsFull (sym c.level_in.ensures) (c.requires.good.each 0)

pub returns : goal.returns
returns c =
    let taken = subst (λ (makes : Bool). AreTaken makes c.level_in.result.now c.in_ok-blanks.blanks) c.makes_levels.ensures c.in_ok-blanks.ensures in
    prepared-area c.args.image.now c.args.k c.args.area c.args.format c.args.kind c.args.remakes c.args.align c.args.piece.now
    c.in_ok-texels.texels c.in_ok-blanks.blanks c.requires.good c.requires.possible c.in_ok-texels.ensures.value c.in_ok-texels.ensures.count
    (subst (λ (found : Option Level). AreTaken (c.args.remakes && (c.args.k == 0)) found c.in_ok-blanks.blanks) c.level_in.ensures taken)
