use Rattle.std.proofs.Common.{◌∙◌}
use Rattle.texture_env.proofs.UnitTexels.{texel-is}
use Rattle.texture_env.proofs.unit.unit_texel.Goals as goal

pub returns : goal.returns
returns c x y shares =
    let at = c.coordinates_at-here.result in
    let here = c.coordinates_at-here.ensures x y shares in
    c.texel.ensures
    ∙ texel-is c.args.unit.now c.args.set.now c.args.prim.now c.args.k x y at.s.0 at.t.0 c.asked_rho-rho.result here.s here.t
    (c.asked_rho-rho.ensures x y shares here)
