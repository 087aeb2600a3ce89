use Rattle.std.proofs.Common.{◌^◌, w64, ◌*ℤ◌, FitsSigned, lit<}
use Rattle.std.proofs.lemmas.Int.{to_z-of_z, fits_signed_mul}
use Rattle.coverage.proofs.Whole.{unsigned_abs-product}
use Rattle.coverage.proofs.edges.product.Goals as goal

pub returns-clause-value : goal.returns-clause-value
returns-clause-value c =
    let run_fits : FitsSigned w64 c.args.run = c.ranges.run in
    let reach_fits : FitsSigned w64 c.args.reach = c.ranges.reach in
    let fits : FitsSigned w64 (c.args.run *ℤ c.args.reach) =
    fits_signed_mul w64 c.args.run c.args.reach (2 ^ 18) (2 ^ 37) c.requires.run_small c.requires.reach_small (lit< tt) in
    simp to_z-of_z

pub returns-clause-small : goal.returns-clause-small
returns-clause-small c =
    let run_fits : FitsSigned w64 c.args.run = c.ranges.run in
    let reach_fits : FitsSigned w64 c.args.reach = c.ranges.reach in
    let fits : FitsSigned w64 (c.args.run *ℤ c.args.reach) =
    fits_signed_mul w64 c.args.run c.args.reach (2 ^ 18) (2 ^ 37) c.requires.run_small c.requires.reach_small (lit< tt) in
    simp to_z-of_z
    (unsigned_abs-product c.args.run c.args.reach (2 ^ 18) (2 ^ 37) c.requires.run_small c.requires.reach_small)
