use Rattle.trace_reader.proofs.Lists.{given_buffers}
use Rattle.trace_reader.proofs.table.buffers.spelling.Goals as goal

pub listed-requires-clause-gives : goal.listed-requires-clause-gives
listed-requires-clause-gives c fits =
    let named = rw c.as_slice.ensures at fits in
    rw (c.in-DeleteBuffers.is, c.as_slice.ensures) (given_buffers c.in-DeleteBuffers.names named)
