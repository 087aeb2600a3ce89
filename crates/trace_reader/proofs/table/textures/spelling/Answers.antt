use Rattle.trace_reader.proofs.Lists.{given_textures}
use Rattle.trace_reader.proofs.table.textures.spelling.Goals as goal

pub listed-requires-clause-gives : goal.listed-requires-clause-gives
listed-requires-clause-gives c fits =
    let named = rw c.as_slice.ensures at fits in
    rw (c.in-DeleteTextures.is, c.as_slice.ensures) (given_textures c.in-DeleteTextures.names named)
