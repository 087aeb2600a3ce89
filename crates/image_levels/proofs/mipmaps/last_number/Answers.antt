use Rattle.std.proofs.Common.{◌<◌, ◌^◌, arith}
use Rattle.gl_records.proofs.Logarithms.{top_bit-below}
use Rattle.image_levels.proofs.mipmaps.last_number.Goals as goal

pub returns-clause-most : goal.returns-clause-most
returns-clause-most c =
    let few : c.from.result < 2 ^ 16 = omega (arith, c.from.ensures, c.max.type_inv) in
    rw c.top_bit.ensures.value (top_bit-below c.from.result 16 (omega arith) (omega arith) few)
