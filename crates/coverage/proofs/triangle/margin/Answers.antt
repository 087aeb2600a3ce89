use Rattle.std.proofs.Common.{rules, sym, ◌∙◌, ◌≡◌, ◌-ℤ◌, pos, FitsSigned, w32, w64, true, false}
use Rattle.std.proofs.lemmas.Int.{to_z-of_z}
use Rattle.gl_records.specs.Coverage.{owns}
use Rattle.coverage.proofs.StepLemmas.{margin-owned, margin-open, less_one_fits}
use Rattle.coverage.proofs.triangle.margin.Goals as goal

pub returns-then-owns-clause-value : goal.returns-then-owns-clause-value
returns-then-owns-clause-value c =
    let x_fits : FitsSigned w32 c.args.x = c.ranges.x in
    let y_fits : FitsSigned w32 c.args.y = c.ranges.y in
    let ax_fits : FitsSigned w32 c.args.a.now.x = search rules in
    let ay_fits : FitsSigned w32 c.args.a.now.y = search rules in
    let bx_fits : FitsSigned w32 c.args.b.now.x = search rules in
    let by_fits : FitsSigned w32 c.args.b.now.y = search rules in
    let run_fits : FitsSigned w64 c.span.result = search rules in
    let run_2_fits : FitsSigned w64 c.span-2.result = search rules in
    let value_fits : FitsSigned w64 c.edge-value.result = search rules in
    let value = simp to_z-of_z at c.edge-value.ensures.value in
    let dx = simp to_z-of_z at c.span.ensures in
    let dy = simp to_z-of_z at c.span-2.ensures in
    let told = simp to_z-of_z at c.owns.ensures in
    let own : owns (c.args.b.now.x -ℤ c.args.a.now.x) (c.args.b.now.y -ℤ c.args.a.now.y) ≡ true =
    rw (dx, dy) at (sym told ∙ c.if-owns.true) in
    simp to_z-of_z (margin-owned c.args.a.now c.args.b.now c.args.x c.args.y c.edge-value.result own value)

pub returns-else-owns-clause-value : goal.returns-else-owns-clause-value
returns-else-owns-clause-value c =
    let x_fits : FitsSigned w32 c.args.x = c.ranges.x in
    let y_fits : FitsSigned w32 c.args.y = c.ranges.y in
    let ax_fits : FitsSigned w32 c.args.a.now.x = search rules in
    let ay_fits : FitsSigned w32 c.args.a.now.y = search rules in
    let bx_fits : FitsSigned w32 c.args.b.now.x = search rules in
    let by_fits : FitsSigned w32 c.args.b.now.y = search rules in
    let run_fits : FitsSigned w64 c.span.result = search rules in
    let run_2_fits : FitsSigned w64 c.span-2.result = search rules in
    let value_fits : FitsSigned w64 c.edge-value.result = search rules in
    let value = simp to_z-of_z at c.edge-value.ensures.value in
    let dx = simp to_z-of_z at c.span.ensures in
    let dy = simp to_z-of_z at c.span-2.ensures in
    let told = simp to_z-of_z at c.owns.ensures in
    let own : owns (c.args.b.now.x -ℤ c.args.a.now.x) (c.args.b.now.y -ℤ c.args.a.now.y) ≡ false =
    rw (dx, dy) at (sym told ∙ c.if-owns.false) in
    let less_fits : FitsSigned w64 (c.edge-value.result -ℤ pos 1) = less_one_fits c.edge-value.result c.edge-value.ensures.small in
    simp to_z-of_z (margin-open c.args.a.now c.args.b.now c.args.x c.args.y c.edge-value.result own value)
