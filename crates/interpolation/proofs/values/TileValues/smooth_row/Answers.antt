use Rattle.std.proofs.Common.{◌≡◌, ◌≤◌, ap, arith, pos}
use Rattle.std.specs.Prelude.{slice_index}
use Rattle.fx_arith.specs.Number.{component}
use Rattle.gl_records.specs.Interpolation.{component as component_of}
use Rattle.gl_records.specs.Valid.{IsInRange}
use Rattle.interpolation.specs.TileValues.{OnTile, x_of, y_of}
use Rattle.interpolation.proofs.ChannelRows.{channel-is}
use Rattle.interpolation.proofs.values.TileValues.smooth_row.Goals as goal

pub returns : goal.returns
returns c holds i begun less small covered =
    let on = c.args.self.now in
    let x = x_of on i in
    let y = y_of on c.args.row in
    let prim_is : c.self.inside.prim.now ≡ on.prim = ap (λ (o : OnTile). o.prim) c.self.view_is in
    let range : IsInRange on.prim = rw prim_is at c.self.invariant.on_tile.in_range in
    let column : i ≤ 16 = omega (arith, small) in
    let positive = c.requires.positive i column in
    let channels = c.requires.channels in
    let red = channel-is on.prim 0 x y (component c.ratio_row.new.values i) range positive covered channels.red.first channels.red.second channels.red.third
    (c.ratio_row.ensures (λ v. pos (slice_index v.rgba 0)) channels.red.sum c.if-not-ratio_row.false i begun less) in
    let green = channel-is on.prim 1 x y (component c.ratio_row-2.new.values i) range positive covered channels.green.first channels.green.second channels.green.third
    (c.ratio_row-2.ensures (λ v. pos (slice_index v.rgba 1)) channels.green.sum c.if-not-ratio_row-2.false i begun less) in
    let blue = channel-is on.prim 2 x y (component c.ratio_row-3.new.values i) range positive covered channels.blue.first channels.blue.second channels.blue.third
    (c.ratio_row-3.ensures (λ v. pos (slice_index v.rgba 2)) channels.blue.sum c.if-not-ratio_row-3.false i begun less) in
    let alpha = channel-is on.prim 3 x y (component c.ratio_row-4.new.values i) range positive covered channels.alpha.first channels.alpha.second channels.alpha.third
    (c.ratio_row-4.ensures (λ v. pos (slice_index v.rgba 3)) channels.alpha.sum c.if-not-ratio_row-4.false i begun less) in
    c.joined_row.ensures i small
    (component_of on.prim 0 x y) (component_of on.prim 1 x y) (component_of on.prim 2 x y) (component_of on.prim 3 x y)
    red.0 green.0 blue.0 alpha.0 red.1 green.1 blue.1 alpha.1
