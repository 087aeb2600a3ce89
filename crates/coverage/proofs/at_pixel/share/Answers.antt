use Rattle.std.proofs.Common.{rules, arith, ◌^◌, FitsSigned, w32, w64, ◌*ℤ◌}
use Rattle.std.proofs.lemmas.Int.{ints, to_z-of_z}
use Rattle.coverage.proofs.Whole.{product-within, product-fits}
use Rattle.coverage.proofs.at_pixel.share.Goals as goal

pub returns-clause-from : goal.returns-clause-from
returns-clause-from c =
    let z_fits : FitsSigned w32 c.args.z = c.ranges.z in
    let weight_fits : FitsSigned w64 c.args.weight = c.ranges.weight in
    let z_wide : FitsSigned w64 c.args.z = omega (arith, ints) in
    let from_fits : FitsSigned w64 c.from.result = search rules in
    let is = simp to_z-of_z at c.from.ensures in
    let fits : FitsSigned w64 (c.args.weight *ℤ c.args.z) =
    product-fits c.args.weight c.args.z c.requires.weight_from c.requires.weight_to c.requires.z_in_range in
    simp (is, to_z-of_z) (product-within c.args.weight c.args.z (2 ^ 26) c.requires.weight_from c.requires.z_in_range).0

pub returns-clause-to : goal.returns-clause-to
returns-clause-to c =
    let z_fits : FitsSigned w32 c.args.z = c.ranges.z in
    let weight_fits : FitsSigned w64 c.args.weight = c.ranges.weight in
    let z_wide : FitsSigned w64 c.args.z = omega (arith, ints) in
    let from_fits : FitsSigned w64 c.from.result = search rules in
    let is = simp to_z-of_z at c.from.ensures in
    let fits : FitsSigned w64 (c.args.weight *ℤ c.args.z) =
    product-fits c.args.weight c.args.z c.requires.weight_from c.requires.weight_to c.requires.z_in_range in
    simp (is, to_z-of_z) (product-within c.args.weight c.args.z (2 ^ 26) c.requires.weight_from c.requires.z_in_range).1
