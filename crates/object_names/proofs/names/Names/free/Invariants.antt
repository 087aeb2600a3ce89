use Rattle.std.proofs.Common.{◌≡◌, ◌≤◌, length}
use Rattle.object_names.specs.Names.{is_free}
use Rattle.object_names.proofs.Given.{passing}
use Rattle.object_names.proofs.names.Names.free.Given as goal

abbrev pub invariant-loop-before : goal.invariant-loop-before
invariant-loop-before g l =
    (l.given.items ≡ passing (is_free l.self) l.before) × (length l.given.items ≤ l.count)
