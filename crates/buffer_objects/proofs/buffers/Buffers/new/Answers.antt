use Rattle.std.proofs.Common.{sym}
use Rattle.buffer_objects.specs.Buffers.{object_size}
use Rattle.buffer_objects.proofs.Keeping.{kept_opening}
use Rattle.object_names.proofs.Totals.{total-empty}
use Rattle.buffer_objects.proofs.buffers.Buffers.new.Goals as goal

pub invariant_of-result : goal.invariant_of-result
invariant_of-result c = rw (c.new.ensures, c.new-2.ensures) (sym (total-empty object_size), kept_opening)
