use Rattle.std.proofs.Common.{◌≡◌, ◌∙◌, ap, rules}
use Rattle.surface_tiles.specs.Tiled.{surface_of, opening_tiles}
use Rattle.surface_tiles.proofs.Whole.{opened, shaped}
use Rattle.whole_surface.proofs.surface.Surface.new.Goals as goal

pub returns-clause-value : goal.returns-clause-value
returns-clause-value c =
    let is : c.in_ok-tiles.tiles ≡ opening_tiles c.args.size = search rules in
    ap surface_of is ∙ opened c.args.size

pub returns-clause-shaped : goal.returns-clause-shaped
returns-clause-shaped c =
    let is : c.in_ok-tiles.tiles ≡ opening_tiles c.args.size = search rules in
    rw is (shaped (opening_tiles c.args.size))
