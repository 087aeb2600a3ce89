use Rattle.std.proofs.Common.{◌≡◌, ◌∙◌, FitsSigned, w64}
use Rattle.std.proofs.lemmas.Int.{to_z-of_z}
use Rattle.interpolation.specs.TileValues.{x_of, y_of}
use Rattle.interpolation.proofs.DepthSums.{total-same}
use Rattle.interpolation.proofs.depths.divided.Goals as goal

pub returns-then-total-gt0 : goal.returns-then-total-gt0
returns-then-total-gt0 c on x y sums total =
    let total_fits : FitsSigned w64 c.args.total = c.ranges.total in
    let divisor : c.new.result.divisor ≡ c.args.total = simp to_z-of_z at c.new.ensures in
    record {
      sums = sums;
      total = λ i j. divisor ∙ total ∙ total-same on.prim x y (x_of on i) (y_of on j);
    }
