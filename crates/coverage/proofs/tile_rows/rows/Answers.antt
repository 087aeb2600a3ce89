use Rattle.gl_records.specs.Coverage.{corner}
use Rattle.coverage.proofs.RowLemmas.{IsStepsOf, exact_bit, line_bit, point_bit}
use Rattle.coverage.proofs.tile_rows.rows.Goals as goal

pub returns-in-Triangle-clause-exact : goal.returns-in-Triangle-clause-exact
returns-in-Triangle-clause-exact c r i down along =
    let first : IsStepsOf c.steps.result (corner c.args.p.now 1) (corner c.args.p.now 2) c.args.tile.x0 c.args.tile.y0 =
    record { margin_is = c.steps.ensures.margin; right_is = c.steps.ensures.right; up_is = c.steps.ensures.up } in
    let second : IsStepsOf c.steps-in-Triangle.result (corner c.args.p.now 2) (corner c.args.p.now 0) c.args.tile.x0 c.args.tile.y0 =
    record { margin_is = c.steps-in-Triangle.ensures.margin; right_is = c.steps-in-Triangle.ensures.right; up_is = c.steps-in-Triangle.ensures.up } in
    let third : IsStepsOf c.steps-in-Triangle-2.result (corner c.args.p.now 0) (corner c.args.p.now 1) c.args.tile.x0 c.args.tile.y0 =
    record { margin_is = c.steps-in-Triangle-2.ensures.margin; right_is = c.steps-in-Triangle-2.ensures.right; up_is = c.steps-in-Triangle-2.ensures.up } in
    exact_bit c.args.p.now c.steps.result c.steps-in-Triangle.result c.steps-in-Triangle-2.result c.args.tile.x0 c.args.tile.y0 r i _
    c.in-Triangle.is first second third (c.triangle_rows.ensures r i down along)

pub returns-in-Line-clause-exact : goal.returns-in-Line-clause-exact
returns-in-Line-clause-exact c r i down along =
    line_bit c.args.p.now _ _ _ c.in-Line.is (c.line_rows.ensures r i down along)

pub returns-in-Point-clause-exact : goal.returns-in-Point-clause-exact
returns-in-Point-clause-exact c r i down along =
    point_bit c.args.p.now _ _ _ c.in-Point.is (c.point_rows.ensures r i down along)
