use Rattle.std.proofs.Common.{◌<◌, ◌^◌, arith}
use Rattle.std.proofs.lemmas.Nat.Bits.{bit_at-trailing_zeros}
use Rattle.std.specs.Int.{w16}
use Rattle.whole_surface.proofs.row_sets.first_of.Goals as goal

pub returns-clause-set : goal.returns-clause-set
returns-clause-set c =
    let fits : c.args.bits < 2 ^ 16 = omega (arith, c.ranges.bits) in
    (bit_at-trailing_zeros w16 c.args.bits c.requires fits).1

pub returns-clause-none_below : goal.returns-clause-none_below
returns-clause-none_below c =
    let fits : c.args.bits < 2 ^ 16 = omega (arith, c.ranges.bits) in
    (bit_at-trailing_zeros w16 c.args.bits c.requires fits).2
