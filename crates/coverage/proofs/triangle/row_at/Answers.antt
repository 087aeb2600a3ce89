use Rattle.std.proofs.Common.{arith, rules, ◌≡◌, ◌+ℤ◌, ◌*ℤ◌, pos, FitsSigned, w64, to_z}
use Rattle.std.proofs.lemmas.Int.{ints, to_z-of_z}
use Rattle.coverage.proofs.RowLemmas.{start_fits}
use Rattle.coverage.proofs.triangle.row_at.Goals as goal

pub returns : goal.returns
returns c =
    let margin_fits : FitsSigned w64 c.args.edge.now.margin = search rules in
    let right_fits : FitsSigned w64 c.args.edge.now.right = search rules in
    let up_fits : FitsSigned w64 c.args.edge.now.up = search rules in
    let r_is : to_z w64 c.args.r ≡ pos c.args.r = omega (arith, ints) in
    let fit = start_fits c.args.edge.now.margin c.args.edge.now.up c.args.r c.requires c.args.edge.now.margin_small c.args.edge.now.up_small in
    let product_fits : FitsSigned w64 (pos c.args.r *ℤ c.args.edge.now.up) = fit.0 in
    let sum_fits : FitsSigned w64 (c.args.edge.now.margin +ℤ (pos c.args.r *ℤ c.args.edge.now.up)) = fit.1 in
    simp (r_is, to_z-of_z) at c.edge_row.ensures
