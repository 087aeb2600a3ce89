use Rattle.std.proofs.Common.{rules, arith, ◌≡◌, ◌^◌, FitsSigned, w32, ◌*ℤ◌}
use Rattle.std.specs.Int.{w128}
use Rattle.std.proofs.lemmas.Int.{fits_signed_from_abs, ints, to_z-of_z}
use Rattle.fx_arith.proofs.Products.{unsigned_abs-*ℤ-≤}
use Rattle.interpolation.proofs.sharing.times.Goals as goal

pub returns-clause-value : goal.returns-clause-value
returns-clause-value c =
    let value_fits : FitsSigned w32 c.args.value = c.ranges.value in
    let share_fits : FitsSigned w128 c.args.share = c.ranges.share in
    let value_wide : FitsSigned w128 c.args.value = omega (arith, ints) in
    let from_fits : FitsSigned w128 c.from.result = search rules in
    let is : c.from.result ≡ c.args.value = simp to_z-of_z at c.from.ensures in
    let most = unsigned_abs-*ℤ-≤ c.args.share c.args.value (2 ^ 69) (2 ^ 32) c.requires (omega (arith, ints)) in
    let fits : FitsSigned w128 (c.args.share *ℤ c.args.value) = fits_signed_from_abs w128 _ (omega (arith, most)) in
    simp (is, to_z-of_z)

pub returns-clause-bound : goal.returns-clause-bound
returns-clause-bound c =
    let value_fits : FitsSigned w32 c.args.value = c.ranges.value in
    let share_fits : FitsSigned w128 c.args.share = c.ranges.share in
    let value_wide : FitsSigned w128 c.args.value = omega (arith, ints) in
    let from_fits : FitsSigned w128 c.from.result = search rules in
    let is : c.from.result ≡ c.args.value = simp to_z-of_z at c.from.ensures in
    let most = unsigned_abs-*ℤ-≤ c.args.share c.args.value (2 ^ 69) (2 ^ 32) c.requires (omega (arith, ints)) in
    let fits : FitsSigned w128 (c.args.share *ℤ c.args.value) = fits_signed_from_abs w128 _ (omega (arith, most)) in
    simp (is, to_z-of_z) most
