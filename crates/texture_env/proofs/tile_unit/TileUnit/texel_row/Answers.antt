use Rattle.std.proofs.Common.{◌≡◌, ◌∙◌, [], slice_index, get_or}
use Rattle.fx_arith.specs.Number.{component}
use Rattle.gl_records.specs.Sampling.{texel_of}
use Rattle.interpolation.specs.TileValues.{x_of, y_of}
use Rattle.texture_env.proofs.UnitTexels.{texel-is}
use Rattle.texture_env.proofs.tile_unit.TileUnit.texel_row.Goals as goal

pub returns : goal.returns
returns c i less set =
    let unit = c.self.inside.unit.now in
    let image = c.self.inside.image.set in
    let at = c.args.at.now in
    let s = component c.coordinate_row.new.s i in
    let t = component c.coordinate_row.new.t i in
    let rho = slice_index c.asked_rhos-rhos.result i in
    let texel : get_or c.texels.new.texels i [] ≡ texel_of image unit.sampler s t rho = rw c.self.invariant.0 at (c.texels.ensures i less set) in
    let choice = rw (← c.self.view_is) at (c.asked_rhos-rhos.ensures i less set) in
    rw (← c.self.view_is)
    (texel
    ∙ texel-is unit image at.on.prim c.args.k (x_of at.on i) (y_of at.on at.row) s t rho
    (c.coordinate_row.ensures.s i less set) (c.coordinate_row.ensures.t i less set) choice)
