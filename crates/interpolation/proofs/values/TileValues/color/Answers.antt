use Rattle.std.proofs.Common.{ap, sym, ◌≡◌, ◌∙◌}
use Rattle.gl_records.specs.Valid.{IsInRange}
use Rattle.interpolation.specs.TileValues.{IsColorOfCorners, OnTile, x_of, y_of}
use Rattle.interpolation.proofs.Colors.{color-same}
use Rattle.interpolation.proofs.values.TileValues.color.Goals as goal

pub returns-in-One-default : goal.returns-in-One-default
returns-in-One-default c =
    let prim_is : c.self.inside.prim.now ≡ c.args.self.now.prim = ap (λ (on : OnTile). on.prim) c.self.view_is in
    let range : IsInRange c.args.self.now.prim = rw prim_is at c.self.invariant.on_tile.in_range in
    let color : IsColorOfCorners c.args.self.now.prim c.in-One-default.color = rw (c.in-One-default.is-0, prim_is) at c.self.invariant.color in
    color.is ∙ sym (color-same c.args.self.now.prim (x_of c.args.self.now c.args.spot.now.column) (y_of c.args.self.now c.args.spot.now.row) range c.requires.covered color.second color.third)
