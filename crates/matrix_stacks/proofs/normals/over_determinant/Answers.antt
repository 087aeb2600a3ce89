use Rattle.std.proofs.Common.{◌*◌, ◌^◌, ◌∙◌, ap, FitsSigned, lit<, lit≤}
use Rattle.std.specs.Prelude.{pos, ◌*ℤ◌}
use Rattle.std.proofs.lemmas.Int.{to_z-of_z, fits_signed_mul}
use Rattle.fx_arith.specs.Number.{nearest_fixed}
use Rattle.matrix_stacks.specs.Eye.{over_determinant}
use Rattle.matrix_stacks.proofs.normals.over_determinant.Goals as goal
use mir.Syntax.{w128}

pub returns : goal.returns
unfolding over_determinant
returns c =
    let sum_fits = c.ranges.sum in
    let determinant_fits = c.ranges.determinant in
    let product_fits : FitsSigned w128 (pos 65536 *ℤ c.args.sum) =
    fits_signed_mul w128 (pos 65536) c.args.sum 65536 (3 * 2 ^ 94) (lit≤ tt) c.requires.bound (lit< tt) in
    let quotient_fits : FitsSigned w128 c.floor_quotient_128.result = record { sfits = c.floor_quotient_128.type_inv } in
    let quotient = simp to_z-of_z at c.floor_quotient_128.ensures.value in
    let result = simp to_z-of_z at c.saturate_wide.ensures in
    result ∙ ap nearest_fixed quotient
