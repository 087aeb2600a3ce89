use Rattle.std.proofs.Common.{arith, FitsSigned, w32}
use Rattle.std.specs.Prelude.{pos, ◌+◌, ◌≤◌}
use Rattle.std.proofs.lemmas.Int.{ints, to_z-of_z}
use Rattle.interpolation.proofs.Bounds.{HasSmallWeights-near, near-place}
use Rattle.interpolation.proofs.values.TileValues.shares.Goals as goal

pub shares_at-requires-clause-small : goal.shares_at-requires-clause-small
shares_at-requires-clause-small c =
    let on = c.self.invariant.on_tile in
    let column : c.self.inside.rect.x0 + c.args.spot.now.column ≤ 1040 = omega (arith, on.column, c.requires.spot.column) in
    let row : c.self.inside.rect.y0 + c.args.spot.now.row ≤ 1040 = omega (arith, on.band, c.requires.spot.row) in
    let x_fits : FitsSigned w32 (pos (c.self.inside.rect.x0 + c.args.spot.now.column)) = omega (arith, ints) in
    let y_fits : FitsSigned w32 (pos (c.self.inside.rect.y0 + c.args.spot.now.row)) = omega (arith, ints) in
    rw (c.from.ensures, c.from-2.ensures) (simp to_z-of_z (HasSmallWeights-near c.self.inside.prim.now _ _ on.in_range (near-place _ column) (near-place _ row)))
