use Rattle.std.proofs.Common.{rules, ◌≡◌, ◌∙◌, pos, ◌<ℤ◌, FitsSigned, w32, w64}
use Rattle.std.proofs.lemmas.Int.{to_z-of_z}
use Rattle.interpolation.specs.Factors.{scaled_total}
use Rattle.interpolation.specs.TileValues.{IsSameOf, x_of, y_of}
use Rattle.interpolation.proofs.Scaled.{value-same}
use Rattle.interpolation.proofs.values.TileValues.quotient.Goals as goal

pub returns-in-Flat : goal.returns-in-Flat
returns-in-Flat c value is =
    let on = c.args.self.now in
    let x = x_of on c.args.spot.now.column in
    let y = y_of on c.args.spot.now.row in
    let n = c.in-Flat.value in
    let n_fits : FitsSigned w32 n = search rules in
    let result_fits : FitsSigned w64 c.from.result = search rules in
    let from : c.from.result ≡ n = simp to_z-of_z at c.from.ensures in
    let same : IsSameOf on.prim value n = rw c.in-Flat.is at is in
    let positive : pos 0 <ℤ scaled_total on.prim x y = rw c.requires.by at c.args.by.now.positive in
    simp to_z-of_z (from ∙ value-same on.prim value n x y same positive)
