use Rattle.std.proofs.Common.{rules, arith, ◌≡◌, ◌∙◌, ◌≤◌, FitsSigned, w64}
use Rattle.std.specs.Prelude.{unsigned_abs}
use Rattle.std.proofs.lemmas.Int.{to_z-of_z}
use Rattle.fx_arith.specs.Number.{floor_div}
use Rattle.interpolation.specs.Depths.{IsStraight, depth_sum}
use Rattle.interpolation.specs.TileValues.{x_of, y_of}
use Rattle.interpolation.proofs.DepthSums.{depth-by}
use Rattle.interpolation.proofs.depths.TileDepths.depth.Goals as goal

pub returns-in-Straight : goal.returns-in-Straight
returns-in-Straight c =
    let on = c.args.self.now in
    let column : c.args.column ≤ 16 = omega arith in
    let row : c.args.row ≤ 16 = omega arith in
    let straight : IsStraight on c.in-Straight.sum c.in-Straight.by = rw c.self.view_is at (rw c.in-Straight.is at c.self.invariant.1) in
    let at_fits : FitsSigned w64 c.at.result = search rules in
    let quotient_fits : FitsSigned w64 c.floor_quotient.result = search rules in
    let sum_is : c.at.result ≡ depth_sum on.prim (x_of on c.args.column) (y_of on c.args.row) =
    c.at.ensures.value ∙ straight.sums c.args.column c.args.row column row in
    let quotient_is : c.floor_quotient.result ≡ floor_div c.at.result (unsigned_abs c.in-Straight.by.divisor) =
    simp to_z-of_z at c.floor_quotient.ensures.value in
    depth-by on.prim (x_of on c.args.column) (y_of on c.args.row) c.floor_quotient.result c.in-Straight.by.divisor c.clamped.result
    (rw sum_is at quotient_is) (straight.total c.args.column c.args.row) (simp to_z-of_z at c.clamped.ensures)
