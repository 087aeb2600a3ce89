use Rattle.std.proofs.Common.{arith, pos, negsuc, FitsSigned, w64, ◌-ℤ◌, ◌≤ℤ◌, ◌<ℤ◌, ◌+ℤ◌, ◌*ℤ◌}
use Rattle.std.proofs.lemmas.Int.{ints, to_z-of_z}
use Rattle.coverage.proofs.StepLemmas.{all_set, none_set, rising_bit, falling_bit}
use Rattle.coverage.proofs.triangle.edge_row.Goals as goal

pub returns-then-last-ge0 : goal.returns-then-last-ge0
returns-then-last-ge0 c =
    let first : pos 0 ≤ℤ c.args.value = omega (arith, ints) in
    let last : pos 0 ≤ℤ (c.args.value +ℤ (pos 15 *ℤ c.args.step)) = omega (arith, ints) in
    all_set c.args.value c.args.step first last

pub returns-then-last-lt0 : goal.returns-then-last-lt0
returns-then-last-lt0 c =
    let first : c.args.value <ℤ pos 0 = omega (arith, ints) in
    let last : (c.args.value +ℤ (pos 15 *ℤ c.args.step)) <ℤ pos 0 = omega (arith, ints) in
    none_set c.args.value c.args.step first last

pub returns-then-value-lt0-2 : goal.returns-then-value-lt0-2
returns-then-value-lt0-2 c k within =
    let value_fits : FitsSigned w64 c.args.value = c.ranges.value in
    let step_fits : FitsSigned w64 c.args.step = c.ranges.step in
    rising_bit c.args.value c.args.step c.below_zero.result k _ within (simp to_z-of_z at (c.below_zero.ensures.exact k within)) (c.mask.ensures k within)

pub returns-else-value-lt0-2 : goal.returns-else-value-lt0-2
returns-else-value-lt0-2 c k within =
    let value_fits : FitsSigned w64 c.args.value = c.ranges.value in
    let step_fits : FitsSigned w64 c.args.step = c.ranges.step in
    let turned_fits : FitsSigned w64 (negsuc 0 -ℤ c.args.value) = omega (arith, ints) in
    let back_fits : FitsSigned w64 (pos 0 -ℤ c.args.step) = omega (arith, ints) in
    let below = simp to_z-of_z at (c.below_zero-else-value-lt0-2.ensures.exact k within) in
    falling_bit c.args.value c.args.step c.below_zero-else-value-lt0-2.result k _ below (c.mask-else-value-lt0-2.ensures k within)
