use Rattle.std.proofs.Common.{◌≡◌, ◌≤◌, ◌+◌, ◌*◌, inl, inr, arith}
use Rattle.gl_records.specs.Tiles.{tiles_along}
use Rattle.whole_surface.specs.Items.{item_of}
use Rattle.whole_surface.proofs.TileLemmas.{columns_outside, tiles_join}
use Rattle.whole_surface.proofs.items.draw_band.Goals as goal

pub loop-column-init : goal.loop-column-init
loop-column-init c =
    let columns = c.args.columns in
    let base = c.args.band * tiles_along c.args.size.w in
    let zero : base + 0 ≡ base = omega arith in
    let all : columns.first ≤ columns.first = omega arith in
    let within : columns.first ≤ tiles_along c.args.size.w = omega (arith, c.requires.across, c.requires.some_column) in
    rw zero at (columns_outside (item_of c.args.paint.now) c.args.size c.args.band columns.first columns.end 0 columns.first c.args.tiles.now c.requires.drawable within c.requires.columns (inl all))

pub returns : goal.returns
returns c =
    let size = c.args.size in
    let columns = c.args.columns in
    let across = tiles_along size.w in
    let base = c.args.band * across in
    let column = c.loop-column.column in
    let last : columns.end ≤ column = omega arith in
    let inside : column ≤ across = omega (arith, c.requires.across) in
    let all : across ≤ across = omega arith in
    let next : base + across ≡ (c.args.band + 1) * across = omega arith in
    let low : base ≤ base + column = omega arith in
    let high : base + column ≤ base + across = omega arith in
    rw next at (tiles_join low high c.loop-column.invariant
    (columns_outside (item_of c.args.paint.now) size c.args.band columns.first columns.end column across c.loop-column.tiles c.requires.drawable all c.requires.columns (inr last)))
