use Rattle.std.proofs.Common.{◌≡◌, ◌≤◌, ◌+◌, ◌*◌, inl, inr, arith}
use Rattle.gl_records.specs.Tiles.{tile_count, tiles_along}
use Rattle.whole_surface.specs.Items.{item_of}
use Rattle.whole_surface.proofs.TileLemmas.{rows_outside, tiles_join}
use Rattle.std.proofs.Math.Nat.{mul-le-mul_right}
use Rattle.whole_surface.proofs.items.draw_bands.Goals as goal

pub loop-band-init : goal.loop-band-init
loop-band-init c =
    let bands = c.args.bands in
    let zero : 0 * tiles_along c.args.size.w ≡ 0 = omega arith in
    let all : bands.first ≤ bands.first = omega arith in
    rw zero at (rows_outside (item_of c.args.paint.now) c.args.size bands.first bands.end 0 bands.first c.args.tiles.now c.requires.drawable c.requires.bands (inl all))

pub loop-band-preserved : goal.loop-band-preserved
loop-band-preserved c =
    let across = tiles_along c.args.size.w in
    let low : 0 ≤ c.loop-band.band * across = omega arith in
    let next : c.loop-band.band ≤ c.loop-band.band + 1 = omega arith in
    let high : c.loop-band.band * across ≤ (c.loop-band.band + 1) * across = mul-le-mul_right across next in
    tiles_join low high c.loop-band.invariant c.draw_band.ensures

pub returns : goal.returns
returns c =
    let size = c.args.size in
    let across = tiles_along size.w in
    let up = tiles_along size.h in
    let band = c.loop-band.band in
    let last : c.args.bands.end ≤ band = omega arith in
    let within : band ≤ up = omega (arith, c.requires.up) in
    let whole : up * across ≡ tile_count size = omega arith in
    let low : 0 ≤ band * across = omega arith in
    let high : band * across ≤ up * across = mul-le-mul_right across within in
    rw whole at (tiles_join low high c.loop-band.invariant
    (rows_outside (item_of c.args.paint.now) size c.args.bands.first c.args.bands.end band up c.loop-band.tiles c.requires.drawable c.requires.bands (inr last)))
