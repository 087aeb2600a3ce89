use Rattle.std.proofs.Common.{◌≡◌, ◌<◌, ◌+◌, ◌*◌, ◌/◌, ℕ, [], length, get_or, slice_set, refl, ap, rules}
use Rattle.std.proofs.lemmas.Nat.{mul-add-lt}
use Rattle.std.proofs.lemmas.Option.{get_or_from_slice_get, slice_get-get_or}
use Rattle.surface_tiles.specs.declared.tile.Tile.{Tile}
use Rattle.surface_tiles.specs.Tiled.{opening_tile}
use Rattle.gl_records.specs.Tiles.{tiles_along}
use Rattle.whole_surface.specs.Items.{item_of}
use Rattle.whole_surface.proofs.TileLemmas.{tile_drawn}
use Rattle.whole_surface.proofs.items.draw_at.Goals as goal

pub returns : goal.returns
returns c =
    let size = c.args.size in
    let tiles = c.args.tiles.now in
    let at = c.args.band * tiles_along size.w + c.args.column in
    let width : c.from.result ≡ size.w = search rules in
    let band : c.from-2.result ≡ c.args.band = search rules in
    let column : c.from-3.result ≡ c.args.column = search rules in
    let number : c.from-2.result * ((c.from.result + 15) / 16) + c.from-3.result ≡ at = rw (width, band, column) refl in
    let within : at < length tiles = rw c.requires.count (mul-add-lt c.args.band (tiles_along size.w) c.args.column (tiles_along size.h) c.requires.band c.requires.column) in
    let none : Tile = record { pixels = []; shaded = 0 } in
    let any : get_or tiles at none ≡ get_or tiles at opening_tile =
    get_or_from_slice_get tiles at (get_or tiles at opening_tile) none (slice_get-get_or tiles at opening_tile within) in
    tile_drawn (item_of c.args.paint.now) size c.args.band c.args.column (record { x0 = 16 * c.args.column; y0 = 16 * c.args.band }) tiles _ c.draw_on.new.tile refl refl c.requires.column within
    (rw (number, any) at c.draw_on.ensures) (ap (λ (n : ℕ). slice_set tiles n c.draw_on.new.tile) number)
