use Rattle.std.proofs.Common.{rules, ◌≡◌, ◌∙◌, FitsSigned}
use Rattle.std.specs.Int.{w128}
use Rattle.std.proofs.lemmas.Int.{to_z-of_z}
use Rattle.fx_arith.specs.Number.{floor_quotient, nearest_fixed}
use Rattle.interpolation.proofs.Fogs.{fog-is}
use Rattle.interpolation.proofs.fog.fog_byte.Goals as goal

pub returns : goal.returns
returns c x y shares =
    let sum_fits : FitsSigned w128 c.sum-sum.result = search rules in
    let total_fits : FitsSigned w128 c.total.result = search rules in
    let quotient_fits : FitsSigned w128 c.floor_quotient_128.result = search rules in
    let quotient : c.floor_quotient_128.result ≡ floor_quotient c.sum-sum.result c.total.result = simp to_z-of_z at c.floor_quotient_128.ensures.value in
    let nearest : c.saturate_wide.result.0 ≡ nearest_fixed c.floor_quotient_128.result = simp to_z-of_z at c.saturate_wide.ensures in
    c.c8.ensures
    ∙ fog-is c.args.shares.now c.args.prim.now x y c.sum-sum.result c.total.result c.floor_quotient_128.result c.saturate_wide.result.0 c.requires shares
    (search rules) c.total.ensures.value quotient nearest
