use Rattle.std.proofs.Common.{sym, ◌∙◌}
use Rattle.primitive_setup.proofs.CutBoxes.{no_point, point_bounds-exact, point_is, point_valid}
use Rattle.primitive_setup.proofs.point.point_at.Goals as goal

pub returns-then-is_empty-clause-value : goal.returns-then-is_empty-clause-value
returns-then-is_empty-clause-value c =
    no_point c.args.size c.args.width c.args.v.now c.point_bounds-bounds.result c.point_bounds-bounds.ensures (sym c.is_empty.ensures ∙ c.if-is_empty.true)

pub returns-clause-value : goal.returns-clause-value
returns-clause-value c =
    point_is c.args.size c.args.width c.args.v.now c.point_bounds-bounds.result c.point_bounds-bounds.ensures (sym c.is_empty.ensures ∙ c.if-is_empty.false)

pub returns-clause-valid : goal.returns-clause-valid
returns-clause-valid c =
    point_valid c.args.size c.args.width c.args.v.now c.point_bounds-bounds.result c.point_bounds-bounds.ensures
    (sym c.is_empty.ensures ∙ c.if-is_empty.false) c.requires.width_from c.requires.width_to c.requires.place

pub returns-clause-bounds : goal.returns-clause-bounds
returns-clause-bounds c =
    point_bounds-exact c.args.size c.args.width c.args.v.now c.point_bounds-bounds.result c.point_bounds-bounds.ensures
