use Rattle.std.proofs.Common.{ap, ◌≡◌}
use Rattle.gl_records.specs.Valid.{IsInRange}
use Rattle.interpolation.specs.TileValues.{OnTile, x_of, y_of}
use Rattle.interpolation.proofs.Positive.{ArePositive-covered}
use Rattle.interpolation.proofs.values.TileValues.plain_color.Goals as goal

pub interpolated_color-requires : goal.interpolated_color-requires
interpolated_color-requires c =
    let prim_is : c.self.inside.prim.now ≡ c.args.self.now.prim = ap (λ (on : OnTile). on.prim) c.self.view_is in
    let range : IsInRange c.args.self.now.prim = rw prim_is at c.self.invariant.on_tile.in_range in
    ArePositive-covered c.shares-shares.result c.args.self.now.prim (x_of c.args.self.now c.args.spot.now.column) (y_of c.args.self.now c.args.spot.now.row) range c.requires.covered c.shares-shares.ensures
