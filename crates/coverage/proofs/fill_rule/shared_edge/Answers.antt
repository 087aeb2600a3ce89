use Rattle.coverage.proofs.FillRuleLemmas.{disjoint, exactly_one, two_sides}
use Rattle.coverage.proofs.fill_rule.shared_edge.Goals as goal

pub returns-clause-two_sides : goal.returns-clause-two_sides
returns-clause-two_sides c = two_sides

pub returns-clause-disjoint : goal.returns-clause-disjoint
returns-clause-disjoint c = disjoint

pub returns-clause-exactly_one : goal.returns-clause-exactly_one
returns-clause-exactly_one c = exactly_one
