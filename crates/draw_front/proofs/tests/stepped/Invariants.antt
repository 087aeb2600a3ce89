use Rattle.std.proofs.Common.{◌≤◌, ◌+◌, length}
use Rattle.draw_front.proofs.tests.stepped.Given as goal

abbrev pub invariant-items : goal.invariant-items
invariant-items g l = l.front.index ≤ l.fn.front.index + 1

abbrev pub decreases-items : goal.decreases-items
decreases-items g l = length l.front.left
