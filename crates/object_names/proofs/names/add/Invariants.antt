use Rattle.std.proofs.Common.{◌≡◌, ◌+◌, ◌≤◌, length, take}
use Rattle.std.specs.FinMap as map
use Rattle.std.specs.HashMap.{spare}
use Rattle.object_names.specs.Names.{with_names}
use Rattle.object_names.proofs.names.add.Given as goal

abbrev pub invariant-loop-name : goal.invariant-loop-name
invariant-loop-name g l =
    (map.from_entries l.table.entries ≡ with_names (map.from_entries l.fn.table.entries) (take l.name-index l.names))
    × (length l.names ≤ spare l.table + l.name-index)
