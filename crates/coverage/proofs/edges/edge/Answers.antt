use Rattle.std.proofs.Common.{arith, rules, FitsSigned, w64, w32, ◌≡◌, ◌-ℤ◌, ◌^◌}
use Rattle.std.proofs.lemmas.Int.{ints, to_z-of_z}
use Rattle.gl_records.specs.Center.{center}
use Rattle.coverage.proofs.EdgeLemmas.{edge_from}
use Rattle.coverage.proofs.Whole.{unsigned_abs-difference, fits_from_abs}
use Rattle.coverage.proofs.edges.edge.Goals as goal

pub product-along-requires-clause-run_small : goal.product-along-requires-clause-run_small
product-along-requires-clause-run_small c =
    let a_fits : FitsSigned w32 c.args.a.now.y = search rules in
    let b_fits : FitsSigned w32 c.args.b.now.y = search rules in
    let fits : FitsSigned w64 c.span-2.result = search rules in
    let is : c.span-2.result ≡ c.args.b.now.y -ℤ c.args.a.now.y = simp to_z-of_z at c.span-2.ensures in
    simp to_z-of_z (omega (arith, ints))

pub overflow_sub-result : goal.overflow_sub-result
overflow_sub-result c =
    let across : FitsSigned w64 c.product-across.result = search rules in
    let along : FitsSigned w64 c.product-along.result = search rules in
    simp to_z-of_z
    (fits_from_abs c.product-across.result c.product-along.result c.product-across.ensures.small c.product-along.ensures.small)

pub returns-clause-value : goal.returns-clause-value
returns-clause-value c =
    let x_fits : FitsSigned w32 c.args.x = search rules in
    let y_fits : FitsSigned w32 c.args.y = search rules in
    let ax_fits : FitsSigned w32 c.args.a.now.x = search rules in
    let ay_fits : FitsSigned w32 c.args.a.now.y = search rules in
    let bx_fits : FitsSigned w32 c.args.b.now.x = search rules in
    let by_fits : FitsSigned w32 c.args.b.now.y = search rules in
    let run_fits : FitsSigned w64 c.span.result = search rules in
    let run_2_fits : FitsSigned w64 c.span-2.result = search rules in
    let reach_fits : FitsSigned w64 c.reach.result = search rules in
    let reach_2_fits : FitsSigned w64 c.reach-2.result = search rules in
    let across_fits : FitsSigned w64 c.product-across.result = search rules in
    let along_fits : FitsSigned w64 c.product-along.result = search rules in
    let fits : FitsSigned w64 (c.product-across.result -ℤ c.product-along.result) =
    fits_from_abs c.product-across.result c.product-along.result c.product-across.ensures.small c.product-along.ensures.small in
    let dx = simp to_z-of_z at c.span.ensures in
    let dy = simp to_z-of_z at c.span-2.ensures in
    let up = simp to_z-of_z at c.reach.ensures.value in
    let right = simp to_z-of_z at c.reach-2.ensures.value in
    let across = simp to_z-of_z at c.product-across.ensures.value in
    let along = simp to_z-of_z at c.product-along.ensures.value in
    simp to_z-of_z (edge_from c.args.a.now c.args.b.now (center c.args.x) (center c.args.y) c.span.result c.span-2.result c.reach.result c.reach-2.result c.product-across.result c.product-along.result dx dy up right across along)

pub returns-clause-small : goal.returns-clause-small
returns-clause-small c =
    let across_fits : FitsSigned w64 c.product-across.result = search rules in
    let along_fits : FitsSigned w64 c.product-along.result = search rules in
    let fits : FitsSigned w64 (c.product-across.result -ℤ c.product-along.result) =
    fits_from_abs c.product-across.result c.product-along.result c.product-across.ensures.small c.product-along.ensures.small in
    simp to_z-of_z
    (unsigned_abs-difference c.product-across.result c.product-along.result (2 ^ 55) c.product-across.ensures.small c.product-along.ensures.small)
