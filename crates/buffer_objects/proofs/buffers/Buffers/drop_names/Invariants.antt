use Rattle.std.proofs.Common.{◌≡◌, take}
use Rattle.buffer_objects.specs.Commands.{without_names}
use Rattle.buffer_objects.proofs.buffers.Buffers.drop_names.Given as goal

abbrev pub invariant-loop-name : goal.invariant-loop-name
invariant-loop-name l = l.self ≡ without_names l.fn.self (take l.name-index l.names)
