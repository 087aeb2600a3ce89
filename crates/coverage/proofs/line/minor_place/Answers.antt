use Rattle.std.proofs.Common.{rules, arith, FitsSigned, w32, w64, ◌+ℤ◌}
use Rattle.std.proofs.lemmas.Int.{ints, to_z-of_z}
use Rattle.gl_records.specs.LineCoverage.{minor_place}
use Rattle.coverage.proofs.line.minor_place.Goals as goal

pub floor_quotient-requires-clause-divisor : goal.floor_quotient-requires-clause-divisor
floor_quotient-requires-clause-divisor c =
    let start_fits : FitsSigned w32 c.args.line.now.start = search rules in
    let end_fits : FitsSigned w32 c.args.line.now.end = search rules in
    let run_fits : FitsSigned w64 c.span-2.result = search rules in
    let is = simp to_z-of_z at c.span-2.ensures in
    simp to_z-of_z (λ zero. c.requires.some (omega (arith, ints, is, zero)))

pub floor_quotient-requires-clause-negatable : goal.floor_quotient-requires-clause-negatable
floor_quotient-requires-clause-negatable c =
    let fits : FitsSigned w64 c.product-passed.result = search rules in
    let small = c.product-passed.ensures.small in
    simp to_z-of_z (omega (arith, ints, small))

pub overflow_add-result : goal.overflow_add-result
overflow_add-result c =
    let start_fits : FitsSigned w32 c.args.line.now.minor_start = search rules in
    let from_fits : FitsSigned w64 c.from.result = search rules in
    let quotient_fits : FitsSigned w64 c.floor_quotient.result = search rules in
    let product_fits : FitsSigned w64 c.product-passed.result = search rules in
    let from_is = simp to_z-of_z at c.from.ensures in
    let bound = simp to_z-of_z at c.floor_quotient.ensures.bound in
    let small = c.product-passed.ensures.small in
    simp to_z-of_z (omega (arith, ints, from_is, bound, small, c.requires.in_range.minor_start.from, c.requires.in_range.minor_start.to))

pub returns-clause-value : goal.returns-clause-value
unfolding minor_place
returns-clause-value c =
    let start_fits : FitsSigned w32 c.args.line.now.start = search rules in
    let end_fits : FitsSigned w32 c.args.line.now.end = search rules in
    let minor_start_fits : FitsSigned w32 c.args.line.now.minor_start = search rules in
    let minor_end_fits : FitsSigned w32 c.args.line.now.minor_end = search rules in
    let along_fits : FitsSigned w32 c.args.along = c.ranges.along in
    let rise_fits : FitsSigned w64 c.span.result = search rules in
    let run_fits : FitsSigned w64 c.span-2.result = search rules in
    let reach_fits : FitsSigned w64 c.reach.result = search rules in
    let product_fits : FitsSigned w64 c.product-passed.result = search rules in
    let from_fits : FitsSigned w64 c.from.result = search rules in
    let quotient_fits : FitsSigned w64 c.floor_quotient.result = search rules in
    let from_is = simp to_z-of_z at c.from.ensures in
    let rise_is = simp to_z-of_z at c.span.ensures in
    let run_is = simp to_z-of_z at c.span-2.ensures in
    let reach_is = simp to_z-of_z at c.reach.ensures.value in
    let product_is = simp to_z-of_z at c.product-passed.ensures.value in
    let quotient_is = simp to_z-of_z at c.floor_quotient.ensures.value in
    let bound = simp to_z-of_z at c.floor_quotient.ensures.bound in
    let small = c.product-passed.ensures.small in
    let sum_fits : FitsSigned w64 (c.from.result +ℤ c.floor_quotient.result) =
    omega (arith, ints, from_is, bound, small, c.requires.in_range.minor_start.from, c.requires.in_range.minor_start.to) in
    simp to_z-of_z (rw (from_is, quotient_is, product_is, rise_is, run_is, reach_is))

pub returns-clause-bound : goal.returns-clause-bound
returns-clause-bound c =
    let start_fits : FitsSigned w32 c.args.line.now.minor_start = search rules in
    let from_fits : FitsSigned w64 c.from.result = search rules in
    let quotient_fits : FitsSigned w64 c.floor_quotient.result = search rules in
    let product_fits : FitsSigned w64 c.product-passed.result = search rules in
    let from_is = simp to_z-of_z at c.from.ensures in
    let bound = simp to_z-of_z at c.floor_quotient.ensures.bound in
    let small = c.product-passed.ensures.small in
    let sum_fits : FitsSigned w64 (c.from.result +ℤ c.floor_quotient.result) =
    omega (arith, ints, from_is, bound, small, c.requires.in_range.minor_start.from, c.requires.in_range.minor_start.to) in
    simp to_z-of_z (omega (arith, ints, from_is, bound, small, c.requires.in_range.minor_start.from, c.requires.in_range.minor_start.to))
