use Rattle.std.proofs.Common.{rules, arith, ◌≡◌, ◌≤◌, ◌+◌, ◌-ℤ◌, ◌+ℤ◌, FitsSigned, w32, w64}
use Rattle.std.specs.Int.{w128}
use Rattle.std.specs.Prelude.{pos}
use Rattle.std.proofs.lemmas.Int.{ints, to_z-of_z}
use Rattle.interpolation.specs.Depths.{depth_sum, weight_total}
use Rattle.interpolation.proofs.Bounds.{HasSmallWeights-near, near-place}
use Rattle.interpolation.proofs.DepthSums.{sum-plane}
use Rattle.interpolation.proofs.depths.straight.Goals as goal

pub depth_sum-origin-requires-clause-small : goal.depth_sum-origin-requires-clause-small
depth_sum-origin-requires-clause-small c =
    let column : c.args.rect.x0 ≤ 1040 = omega (arith, c.requires.column) in
    let band : c.args.rect.y0 ≤ 1040 = omega (arith, c.requires.band) in
    let x_fits : FitsSigned w32 (pos c.args.rect.x0) = omega (arith, ints) in
    let y_fits : FitsSigned w32 (pos c.args.rect.y0) = omega (arith, ints) in
    rw (c.from-x.ensures, c.from-y.ensures) (simp to_z-of_z (HasSmallWeights-near c.args.prim.now _ _ c.requires.in_range (near-place c.args.rect.x0 column) (near-place c.args.rect.y0 band)))

pub depth_sum-right-requires-clause-small : goal.depth_sum-right-requires-clause-small
depth_sum-right-requires-clause-small c =
    let column : c.args.rect.x0 + 1 ≤ 1040 = omega (arith, c.requires.column) in
    let band : c.args.rect.y0 ≤ 1040 = omega (arith, c.requires.band) in
    let x_fits : FitsSigned w32 (pos c.args.rect.x0) = omega (arith, ints) in
    let y_fits : FitsSigned w32 (pos c.args.rect.y0) = omega (arith, ints) in
    let right_fits : FitsSigned w32 (pos c.args.rect.x0 +ℤ pos 1) = omega (arith, ints) in
    rw (c.from-x.ensures, c.from-y.ensures) (simp to_z-of_z (HasSmallWeights-near c.args.prim.now _ _ c.requires.in_range (near-place (c.args.rect.x0 + 1) column) (near-place c.args.rect.y0 band)))

pub depth_sum-above-requires-clause-small : goal.depth_sum-above-requires-clause-small
depth_sum-above-requires-clause-small c =
    let column : c.args.rect.x0 ≤ 1040 = omega (arith, c.requires.column) in
    let band : c.args.rect.y0 + 1 ≤ 1040 = omega (arith, c.requires.band) in
    let x_fits : FitsSigned w32 (pos c.args.rect.x0) = omega (arith, ints) in
    let y_fits : FitsSigned w32 (pos c.args.rect.y0) = omega (arith, ints) in
    let above_fits : FitsSigned w32 (pos c.args.rect.y0 +ℤ pos 1) = omega (arith, ints) in
    rw (c.from-x.ensures, c.from-y.ensures) (simp to_z-of_z (HasSmallWeights-near c.args.prim.now _ _ c.requires.in_range (near-place c.args.rect.x0 column) (near-place (c.args.rect.y0 + 1) band)))

pub weight_total-requires-clause-small : goal.weight_total-requires-clause-small
weight_total-requires-clause-small c =
    let column : c.args.rect.x0 ≤ 1040 = omega (arith, c.requires.column) in
    let band : c.args.rect.y0 ≤ 1040 = omega (arith, c.requires.band) in
    let x_fits : FitsSigned w32 (pos c.args.rect.x0) = omega (arith, ints) in
    let y_fits : FitsSigned w32 (pos c.args.rect.y0) = omega (arith, ints) in
    rw (c.from-x.ensures, c.from-y.ensures) (simp to_z-of_z (HasSmallWeights-near c.args.prim.now _ _ c.requires.in_range (near-place c.args.rect.x0 column) (near-place c.args.rect.y0 band)))

pub returns-in-Some : goal.returns-in-Some
returns-in-Some c =
    let p = c.args.prim.now in
    let x_fits : FitsSigned w32 (pos c.args.rect.x0) = omega (arith, ints, c.requires.column) in
    let y_fits : FitsSigned w32 (pos c.args.rect.y0) = omega (arith, ints, c.requires.band) in
    let right_fits : FitsSigned w32 (pos c.args.rect.x0 +ℤ pos 1) = omega (arith, ints, c.requires.column) in
    let above_fits : FitsSigned w32 (pos c.args.rect.y0 +ℤ pos 1) = omega (arith, ints, c.requires.band) in
    let origin_fits : FitsSigned w128 c.depth_sum-origin.result = search rules in
    let sum_fits : FitsSigned w128 c.depth_sum-right.result = search rules in
    let sum_above_fits : FitsSigned w128 c.depth_sum-above.result = search rules in
    let change_fits : FitsSigned w128 (c.depth_sum-right.result -ℤ c.depth_sum-origin.result) = omega (arith, ints, c.depth_sum-right.ensures.bound, c.depth_sum-origin.ensures.bound) in
    let change_above_fits : FitsSigned w128 (c.depth_sum-above.result -ℤ c.depth_sum-origin.result) = omega (arith, ints, c.depth_sum-above.ensures.bound, c.depth_sum-origin.ensures.bound) in
    let total_fits : FitsSigned w64 c.weight_total.result = search rules in
    let origin : c.depth_sum-origin.result ≡ depth_sum p (pos c.args.rect.x0) (pos c.args.rect.y0) =
    simp to_z-of_z at (rw (c.from-x.ensures, c.from-y.ensures) at c.depth_sum-origin.ensures.value) in
    let right : c.depth_sum-right.result ≡ depth_sum p (pos c.args.rect.x0 +ℤ pos 1) (pos c.args.rect.y0) =
    simp to_z-of_z at (rw (c.from-x.ensures, c.from-y.ensures) at c.depth_sum-right.ensures.value) in
    let above : c.depth_sum-above.result ≡ depth_sum p (pos c.args.rect.x0) (pos c.args.rect.y0 +ℤ pos 1) =
    simp to_z-of_z at (rw (c.from-x.ensures, c.from-y.ensures) at c.depth_sum-above.ensures.value) in
    let total : c.weight_total.result ≡ weight_total p (pos c.args.rect.x0) (pos c.args.rect.y0) =
    simp to_z-of_z at (rw (c.from-x.ensures, c.from-y.ensures) at c.weight_total.ensures.value) in
    c.divided.ensures (record { prim = p; rect = c.args.rect }) (pos c.args.rect.x0) (pos c.args.rect.y0)
    (λ i j column row. sum-plane p (λ v. v.z) (pos c.args.rect.x0) (pos c.args.rect.y0)
    c.depth_sum-origin.result c.depth_sum-right.result c.depth_sum-above.result c.in-Some.sum origin right above
    (simp to_z-of_z at c.in-Some.ensures.plane) i j)
    (simp to_z-of_z total)
