use Rattle.std.proofs.Common.{◌≡◌, [], get_or}
use Rattle.std.specs.Option.{option_copied}
use Rattle.gl_records.specs.Shading.{unit_at}
use Rattle.interpolation.specs.TileValues.{x_of, y_of}
use Rattle.texture_env.proofs.Shaded.{shaded-is}
use Rattle.texture_env.proofs.shader.TileShader.color_row.Goals as goal

pub returns : goal.returns
returns c i less set =
    let inside = c.self.inside in
    let at = c.args.at.now in
    let state = inside.state.now in
    let first = option_copied inside.first in
    let second = option_copied inside.second in
    let same : at.on ≡ inside.values = rw (← c.self.view_is) at c.requires.at in
    rw (← c.self.view_is)
    (shaded-is state first second inside.values.prim (x_of inside.values i) (y_of inside.values at.row)
    (get_or c.primary_row.new.colors i []) (get_or c.textured_row.new.colors i []) (get_or c.textured_row-2.new.colors i []) (get_or c.fogged_row.new.colors i [])
    (rw same at (c.primary_row.ensures i less set))
    (rw same at (c.textured_row.ensures (unit_at state 0) first c.self.invariant.1 i less set))
    (rw same at (c.textured_row-2.ensures (unit_at state 1) second c.self.invariant.2 i less set))
    (rw same at (c.fogged_row.ensures i less set)))
