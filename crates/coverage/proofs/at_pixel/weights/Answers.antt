use Rattle.std.proofs.Common.{rules, FitsSigned, w32, w64}
use Rattle.std.proofs.lemmas.Int.{to_z-of_z}
use Rattle.coverage.proofs.WeightLemmas.{AreWeights-covered, weights-Triangle, weights-Line, weights-Point}
use Rattle.coverage.proofs.at_pixel.weights.Goals as goal

pub returns-in-Triangle-clause-value : goal.returns-in-Triangle-clause-value
returns-in-Triangle-clause-value c =
    let x_fits : FitsSigned w32 c.args.x = c.ranges.x in
    let y_fits : FitsSigned w32 c.args.y = c.ranges.y in
    let first_fits : FitsSigned w64 c.edge.result = search rules in
    let second_fits : FitsSigned w64 c.edge-in-Triangle.result = search rules in
    let third_fits : FitsSigned w64 c.edge-in-Triangle-2.result = search rules in
    let first = simp to_z-of_z at c.edge.ensures.value in
    let second = simp to_z-of_z at c.edge-in-Triangle.ensures.value in
    let third = simp to_z-of_z at c.edge-in-Triangle-2.ensures.value in
    simp to_z-of_z
    (weights-Triangle c.args.p.now c.args.x c.args.y c.edge.result c.edge-in-Triangle.result c.edge-in-Triangle-2.result
    c.in-Triangle.is first second third)

pub returns-in-Triangle-clause-where_covered : goal.returns-in-Triangle-clause-where_covered
returns-in-Triangle-clause-where_covered c = AreWeights-covered c.args.p.now c.args.x c.args.y c.requires

pub returns-in-Line-clause-value : goal.returns-in-Line-clause-value
returns-in-Line-clause-value c =
    let x_fits : FitsSigned w32 c.args.x = c.ranges.x in
    let y_fits : FitsSigned w32 c.args.y = c.ranges.y in
    let is = simp to_z-of_z at c.line_weights.ensures in
    rw is (weights-Line c.args.p.now c.args.x c.args.y c.in-Line.is)

pub returns-in-Line-clause-where_covered : goal.returns-in-Line-clause-where_covered
returns-in-Line-clause-where_covered c = AreWeights-covered c.args.p.now c.args.x c.args.y c.requires

pub returns-in-Point-clause-value : goal.returns-in-Point-clause-value
returns-in-Point-clause-value c = weights-Point c.args.p.now c.args.x c.args.y c.in-Point.is

pub returns-in-Point-clause-where_covered : goal.returns-in-Point-clause-where_covered
returns-in-Point-clause-where_covered c = AreWeights-covered c.args.p.now c.args.x c.args.y c.requires
