use Rattle.std.proofs.Common.{◌≡◌, ◌≤◌, ap, arith, pos}
use Rattle.std.specs.Prelude.{◌<ℤ◌}
use Rattle.fx_arith.specs.Number.{component, fixed}
use Rattle.gl_records.specs.TextureCoordinate.{corner_coordinate}
use Rattle.gl_records.specs.Valid.{IsInRange}
use Rattle.interpolation.specs.Factors.{scaled_total}
use Rattle.interpolation.specs.TileValues.{AreUnitRatiosOf, IsDivisorOf, OnTile, x_of, y_of}
use Rattle.interpolation.proofs.Scaled.{coordinates-scaled}
use Rattle.interpolation.proofs.values.TileValues.coordinate_row.Goals as goal

pub returns-then-ratio_row : goal.returns-then-ratio_row
returns-then-ratio_row c holds i begun less =
    let on = c.args.self.now in
    let unit = c.args.unit in
    let row = c.args.row in
    let column : i ≤ 16 = omega (arith, less, c.requires.to) in
    let prim_is : c.self.inside.prim.now ≡ on.prim = ap (λ (o : OnTile). o.prim) c.self.view_is in
    let range : IsInRange on.prim = rw prim_is at c.self.invariant.on_tile.in_range in
    let divisor : IsDivisorOf on c.in-Some-Some.field-0-1 = rw (c.in-Some-Some.is-1, c.self.view_is) at c.self.invariant.divisor in
    let positive : pos 0 <ℤ scaled_total on.prim (x_of on i) (y_of on row) =
    rw (divisor.plane i row column c.requires.row) at (divisor.positive i row column c.requires.row) in
    let ratios : AreUnitRatiosOf on unit c.in-Some-Some.ratios = rw c.in-Some-Some.is-0 at c.ratios_of.ensures in
    coordinates-scaled on.prim unit (x_of on i) (y_of on row)
    (fixed (component c.ratio_row.new.values i)) (fixed (component c.ratio_row-then-ratio_row.new.values i)) range positive
    ratios.thirds.first ratios.thirds.second ratios.thirds.third
    (c.ratio_row.ensures (corner_coordinate unit 0) ratios.s c.if-ratio_row.true i begun less)
    (c.ratio_row-then-ratio_row.ensures (corner_coordinate unit 1) ratios.t holds i begun less)
