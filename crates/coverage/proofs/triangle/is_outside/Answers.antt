use Rattle.std.proofs.Common.{rules, FitsSigned, w64, pos, ◌+ℤ◌, ◌*ℤ◌}
use Rattle.std.proofs.lemmas.Int.{to_z-of_z}
use Rattle.coverage.proofs.StepLemmas.{TileFits-from, all_below, none_inside}
use Rattle.coverage.proofs.triangle.is_outside.Goals as goal

pub overflow_add-top-2 : goal.overflow_add-top-2
overflow_add-top-2 c =
    let margin_fits : FitsSigned w64 c.args.edge.now.margin = search rules in
    let right_fits : FitsSigned w64 c.args.edge.now.right = search rules in
    let up_fits : FitsSigned w64 c.args.edge.now.up = search rules in
    let fit = TileFits-from c.args.edge.now.margin c.args.edge.now.right c.args.edge.now.up
    c.args.edge.now.margin_small c.args.edge.now.right_small c.args.edge.now.up_small in
    let across_fits : FitsSigned w64 (pos 15 *ℤ c.args.edge.now.right) = fit.across in
    let along_fits : FitsSigned w64 (pos 15 *ℤ c.args.edge.now.up) = fit.along in
    let low_fits : FitsSigned w64 (c.args.edge.now.margin +ℤ (pos 15 *ℤ c.args.edge.now.right)) = fit.low in
    let high_fits : FitsSigned w64 (c.args.edge.now.margin +ℤ (pos 15 *ℤ c.args.edge.now.up)) = fit.high in
    simp to_z-of_z fit.last

pub returns : goal.returns
returns c h r i down along =
    let margin_fits : FitsSigned w64 c.args.edge.now.margin = search rules in
    let right_fits : FitsSigned w64 c.args.edge.now.right = search rules in
    let up_fits : FitsSigned w64 c.args.edge.now.up = search rules in
    let fit = TileFits-from c.args.edge.now.margin c.args.edge.now.right c.args.edge.now.up
    c.args.edge.now.margin_small c.args.edge.now.right_small c.args.edge.now.up_small in
    let across_fits : FitsSigned w64 (pos 15 *ℤ c.args.edge.now.right) = fit.across in
    let along_fits : FitsSigned w64 (pos 15 *ℤ c.args.edge.now.up) = fit.along in
    let low_fits : FitsSigned w64 (c.args.edge.now.margin +ℤ (pos 15 *ℤ c.args.edge.now.right)) = fit.low in
    let high_fits : FitsSigned w64 (c.args.edge.now.margin +ℤ (pos 15 *ℤ c.args.edge.now.up)) = fit.high in
    let last_fits : FitsSigned w64 ((c.args.edge.now.margin +ℤ (pos 15 *ℤ c.args.edge.now.up)) +ℤ (pos 15 *ℤ c.args.edge.now.right)) = fit.last in
    let max_fits : FitsSigned w64 c.max.result = search rules in
    let max_2_fits : FitsSigned w64 c.max-2.result = search rules in
    let greatest_fits : FitsSigned w64 c.max-greatest.result = search rules in
    let below = all_below c.args.edge.now.margin (c.args.edge.now.margin +ℤ (pos 15 *ℤ c.args.edge.now.right))
    (c.args.edge.now.margin +ℤ (pos 15 *ℤ c.args.edge.now.up))
    ((c.args.edge.now.margin +ℤ (pos 15 *ℤ c.args.edge.now.up)) +ℤ (pos 15 *ℤ c.args.edge.now.right))
    c.max.result c.max-2.result c.max-greatest.result
    (simp to_z-of_z at c.max.ensures.self_bound) (simp to_z-of_z at c.max.ensures.other_bound)
    (simp to_z-of_z at c.max-2.ensures.self_bound) (simp to_z-of_z at c.max-2.ensures.other_bound)
    (simp to_z-of_z at c.max-greatest.ensures.self_bound) (simp to_z-of_z at c.max-greatest.ensures.other_bound)
    (simp to_z-of_z at h) in
    none_inside c.args.edge.now.margin c.args.edge.now.right c.args.edge.now.up r i down along below.0 below.1 below.2 below.3
