use Rattle.std.proofs.Common.{sym, ◌∙◌}
use Rattle.image_commands.proofs.Counting.{level-made, level-plain}
use Rattle.image_commands.proofs.bytes.bytes_after_level.Goals as goal

pub returns-then-makes_levels_behind : goal.returns-then-makes_levels_behind
returns-then-makes_levels_behind c = λ format kind align piece.
    level-made c.args.image.now c.args.k format kind c.args.w c.args.h c.args.remakes align piece c.bytes_with_made.result c.requires.good c.requires.w c.requires.h
    (sym c.makes_levels_behind.ensures ∙ c.if-makes_levels_behind.true) c.bytes_with_made.ensures

pub returns : goal.returns
returns c = λ format kind align piece.
    level-plain c.args.image.now c.args.k format kind c.args.w c.args.h c.args.remakes align piece c.bytes_with_level.result c.requires.good c.requires.number
    (sym c.makes_levels_behind.ensures ∙ c.if-makes_levels_behind.false) c.bytes_with_level.ensures
