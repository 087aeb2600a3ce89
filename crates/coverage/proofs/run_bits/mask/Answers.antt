use Rattle.std.proofs.Common.{◌<◌, ◌≤◌, arith}
use Rattle.std.proofs.lemmas.Nat.{one_shl}
use Rattle.std.proofs.Math.Pow.{pow_mono}
use Rattle.coverage.proofs.RunLemmas.{mask_bit}
use Rattle.coverage.proofs.run_bits.mask.Goals as goal

pub overflow_sub-result : goal.overflow_sub-result
overflow_sub-result c =
    let low : c.args.low < 32 = omega arith in
    let high : c.args.high < 32 = omega arith in
    let order : c.args.low ≤ c.args.high = omega arith in
    rw (one_shl c.args.low 32 low, one_shl c.args.high 32 high) (pow_mono order)

pub returns-then-low-high : goal.returns-then-low-high
returns-then-low-high c k within =
    let low : c.args.low < 32 = omega arith in
    let high : c.args.high < 32 = omega arith in
    rw (one_shl c.args.low 32 low, one_shl c.args.high 32 high) (mask_bit c.args.low c.args.high k)
