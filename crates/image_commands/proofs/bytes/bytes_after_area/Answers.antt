use Rattle.std.proofs.Common.{sym, ◌∙◌}
use Rattle.image_commands.proofs.Counting.{area-made, area-none, area-plain}
use Rattle.image_commands.proofs.bytes.bytes_after_area.Goals as goal

pub returns-then-not-makes_levels : goal.returns-then-not-makes_levels
returns-then-not-makes_levels c = λ area format kind align piece.
    c.bytes.ensures
    ∙ area-plain c.args.image.now c.args.k area format kind c.args.remakes align piece c.requires.good c.requires.number
    (sym c.makes_levels.ensures ∙ c.if-not-makes_levels.true)

pub returns-in-Some : goal.returns-in-Some
returns-in-Some c = λ area format kind align piece.
    area-made c.args.image.now c.args.k area format kind c.args.remakes align piece c.in-Some.first c.bytes_with_made.result c.requires.good
    (sym c.makes_levels.ensures ∙ c.if-not-makes_levels.false) (sym c.level_in.ensures ∙ c.in-Some.is) c.bytes_with_made.ensures

pub returns-in-None : goal.returns-in-None
returns-in-None c = λ area format kind align piece.
    c.bytes-in-None.ensures
    ∙ area-none c.args.image.now c.args.k area format kind c.args.remakes align piece c.requires.good c.requires.number
    (sym c.makes_levels.ensures ∙ c.if-not-makes_levels.false) (sym c.level_in.ensures ∙ c.in-None.is)
