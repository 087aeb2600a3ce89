use Rattle.std.proofs.Common.{sym, ◌∙◌}
use Rattle.primitive_setup.proofs.CutBoxes.{line_is, line_valid, no_line-empty, no_line-same_place}
use Rattle.primitive_setup.proofs.line.line_between.Goals as goal

pub returns-then-are_same_place-clause-value : goal.returns-then-are_same_place-clause-value
returns-then-are_same_place-clause-value c =
    no_line-same_place c.args.size c.args.width c.args.a.now c.args.b.now (sym c.are_same_place.ensures ∙ c.if-are_same_place.true)

pub returns-then-is_empty-clause-value : goal.returns-then-is_empty-clause-value
returns-then-is_empty-clause-value c =
    no_line-empty c.args.size c.args.width c.args.a.now c.args.b.now c.line_bounds-bounds.result
    (sym c.are_same_place.ensures ∙ c.if-are_same_place.false) c.line_bounds-bounds.ensures (sym c.is_empty.ensures ∙ c.if-is_empty.true)

pub returns-clause-value : goal.returns-clause-value
returns-clause-value c =
    line_is c.args.size c.args.width c.args.a.now c.args.b.now c.line_bounds-bounds.result
    (sym c.are_same_place.ensures ∙ c.if-are_same_place.false) c.line_bounds-bounds.ensures (sym c.is_empty.ensures ∙ c.if-is_empty.false)

pub returns-clause-valid : goal.returns-clause-valid
returns-clause-valid c =
    line_valid c.args.size c.args.width c.args.a.now c.args.b.now c.line_bounds-bounds.result c.line_bounds-bounds.ensures
    (sym c.is_empty.ensures ∙ c.if-is_empty.false) c.requires.width_from c.requires.width_to c.requires.first c.requires.second
