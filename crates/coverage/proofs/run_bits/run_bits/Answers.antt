use Rattle.std.proofs.Common.{◌≡◌, ◌+ℤ◌, pos, arith, rules, FitsSigned, w64}
use Rattle.std.proofs.lemmas.Int.{ints, to_z-of_z}
use Rattle.coverage.proofs.RunLemmas.{run_bit}
use Rattle.coverage.proofs.run_bits.run_bits.Goals as goal

pub returns : goal.returns
returns c k within =
    let first_fits : FitsSigned w64 c.args.first = c.ranges.first in
    let from_fits : FitsSigned w64 c.from.result = search rules in
    let from_is : c.from.result ≡ pos c.args.count = c.from.ensures in
    let count_to = c.ranges.count in
    let sum_fits : FitsSigned w64 (c.args.first +ℤ c.from.result) = omega (arith, ints, from_is, count_to, c.requires) in
    let low = simp to_z-of_z at (c.bits_below.ensures.exact k within) in
    let high = rw from_is at (simp to_z-of_z at (c.bits_below-2.ensures.exact k within)) in
    run_bit c.args.first c.args.count c.args.base k _ _ _ low high (c.mask.ensures k within)
