use Rattle.std.proofs.Common.{◌∙◌, ◌*◌, ◌<◌, List, [], get_or, ap, sym}
use Rattle.gl_records.specs.declared.pixel.Pixel.{Pixel}
use Rattle.gl_records.specs.declared.size.Size.{Size}
use Rattle.gl_records.specs.Surface.{row_bytes}
use Rattle.surface_tiles.proofs.Whole.{row_at, same_size}
use Rattle.whole_surface.proofs.surface.Surface.row.Goals as goal

pub row-requires-clause-inside : goal.row-requires-clause-inside
row-requires-clause-inside c =
    let same = same_size c.args._size c.self.inside.tiles c.self.invariant.0 (rw c.self.view_is c.requires.shaped) in
    rw (← same) c.requires.inside

pub row-requires-clause-whole : goal.row-requires-clause-whole
row-requires-clause-whole c =
    let same = same_size c.args._size c.self.inside.tiles c.self.invariant.0 (rw c.self.view_is c.requires.shaped) in
    c.requires.whole ∙ ap (λ (size : Size). 4 * size.w) same

pub returns : goal.returns
returns c =
    let same = same_size c.args._size c.self.inside.tiles c.self.invariant.0 (rw c.self.view_is c.requires.shaped) in
    let inside : c.args.y < c.self.inside.tiles.size.h = rw (← same) c.requires.inside in
    c.row.ensures
    ∙ ap row_bytes (sym (row_at c.self.inside.tiles c.args.y [] inside)
    ∙ ap (λ (surface : List (List Pixel)). get_or surface c.args.y []) c.self.view_is)
