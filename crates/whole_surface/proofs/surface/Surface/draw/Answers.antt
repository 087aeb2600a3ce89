use Rattle.std.proofs.Common.{◌≡◌, ◌∙◌, List, [], ◌∷◌, length, ap, sym, subst}
use Rattle.gl_records.specs.declared.pixel.Pixel.{Pixel}
use Rattle.gl_records.specs.Captured.{captured_by}
use Rattle.gl_records.specs.Surface.{IsShaped, drawn}
use Rattle.gl_records.specs.Tiles.{tile_count}
use Rattle.surface_tiles.specs.Tiled.{surface_of}
use Rattle.surface_tiles.proofs.Whole.{same_size, shaped, with_tiles_is}
use Rattle.whole_surface.specs.UnitImages.{UnitImages}
use Rattle.whole_surface.proofs.surface.Surface.draw.Goals as goal

pub draw_item-requires-clause-sides : goal.draw_item-requires-clause-sides
draw_item-requires-clause-sides c =
    let same = same_size c.args.size c.self.inside.tiles c.self.invariant.0 (rw c.self.view_is c.requires.shaped) in
    rw same c.self.invariant.0

pub draw_item-requires-clause-count : goal.draw_item-requires-clause-count
draw_item-requires-clause-count c =
    let same = same_size c.args.size c.self.inside.tiles c.self.invariant.0 (rw c.self.view_is c.requires.shaped) in
    c.tiles_mut.ensures.count ∙ ap tile_count (sym same)

pub returns-clause-drawn : goal.returns-clause-drawn
returns-clause-drawn c =
    let tiled = c.self.inside.tiles in
    let tiles = c.draw_item.new.tiles in
    let item = c.args.item.now in
    let images : UnitImages = c.new-images.result in
    let items = captured_by item images.first images.second ∷ [] in
    let same = same_size c.args.size tiled c.self.invariant.0 (rw c.self.view_is c.requires.shaped) in
    let len : length tiles ≡ length tiled.tiles = c.draw_item.ensures.count ∙ ap tile_count same ∙ sym c.self.invariant.1 in
    let drew : surface_of (record { size = tiled.size; tiles = tiles }) ≡ drawn items (surface_of (record { size = tiled.size; tiles = tiled.tiles })) =
    rw (same, c.tiles_mut.ensures.value) at c.draw_item.ensures.drawn in
    ap surface_of (with_tiles_is tiled tiles len) ∙ drew ∙ ap (λ (surface : List (List Pixel)). drawn items surface) c.self.view_is
    ∙ ap (λ (images : UnitImages). drawn (captured_by item images.first images.second ∷ []) c.args.self.now) c.new-images.ensures

pub returns-clause-shaped : goal.returns-clause-shaped
returns-clause-shaped c =
    let tiled = c.self.inside.tiles in
    let tiles = c.draw_item.new.tiles in
    let same = same_size c.args.size tiled c.self.invariant.0 (rw c.self.view_is c.requires.shaped) in
    let len : length tiles ≡ length tiled.tiles = c.draw_item.ensures.count ∙ ap tile_count same ∙ sym c.self.invariant.1 in
    let is : IsShaped c.args.size (surface_of (record { size = tiled.size; tiles = tiles })) = rw same (shaped (record { size = tiled.size; tiles = tiles })) in
    subst (λ (surface : List (List Pixel)). IsShaped c.args.size surface) (sym (ap surface_of (with_tiles_is tiled tiles len))) is
