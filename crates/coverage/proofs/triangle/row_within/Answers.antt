use Rattle.coverage.proofs.RowLemmas.{and_three, none_of_two}
use Rattle.coverage.proofs.triangle.row_within.Goals as goal

pub returns-then-both-eq0 : goal.returns-then-both-eq0
returns-then-both-eq0 c i within =
    none_of_two i _ _ _ c.row_at-first.result c.row_at.result c.if-both-eq0.true (c.row_at-first.ensures i within) (c.row_at.ensures i within)

pub returns : goal.returns
returns c i within =
    rw (and_three, c.row_at-first.ensures i within, c.row_at.ensures i within, c.row_at-2.ensures i within)
