use Rattle.std.proofs.Common.{rules, arith, ◌≡◌, FitsSigned}
use Rattle.std.specs.Prelude.{pos, ◌≤ℤ◌, ◌<ℤ◌}
use Rattle.std.specs.Int.{w128}
use Rattle.std.proofs.lemmas.Int.{ints, to_z-of_z}
use Rattle.fx_arith.specs.Number.{div}
use Rattle.interpolation.proofs.Places.{known, unknown}
use Rattle.interpolation.proofs.texture_coordinates.coordinates_at.Goals as goal

pub returns-then-divisor-le0 : goal.returns-then-divisor-le0
returns-then-divisor-le0 c x y shares =
    let fits : FitsSigned w128 c.coordinate_sum-divisor.result = search rules in
    let test = simp to_z-of_z at c.if-divisor-le0.true in
    let low : c.coordinate_sum-divisor.result ≤ℤ pos 0 = omega (arith, ints) in
    unknown c.args.shares.now c.args.prim.now c.args.unit x y shares (rw (← c.coordinate_sum-divisor.ensures.value) low)

pub returns : goal.returns
returns c x y shares =
    let fits : FitsSigned w128 c.coordinate_sum-divisor.result = search rules in
    let s_fits : FitsSigned w128 c.coordinate_sum.result = search rules in
    let t_fits : FitsSigned w128 c.coordinate_sum-2.result = search rules in
    let test = simp to_z-of_z at c.if-divisor-le0.false in
    let high : pos 0 <ℤ c.coordinate_sum-divisor.result = omega (arith, ints) in
    let s : c.ratio.result.0 ≡ div c.coordinate_sum.result c.coordinate_sum-divisor.result = simp to_z-of_z at c.ratio.ensures in
    let t : c.ratio-2.result.0 ≡ div c.coordinate_sum-2.result c.coordinate_sum-divisor.result = simp to_z-of_z at c.ratio-2.ensures in
    known c.args.shares.now c.args.prim.now c.args.unit x y c.ratio.result c.ratio-2.result shares
    (rw (← c.coordinate_sum-divisor.ensures.value) high)
    (rw (← c.coordinate_sum.ensures.value, ← c.coordinate_sum-divisor.ensures.value) s)
    (rw (← c.coordinate_sum-2.ensures.value, ← c.coordinate_sum-divisor.ensures.value) t)
