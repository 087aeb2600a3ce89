use Rattle.std.proofs.Common.{FitsSigned, w32}
use Rattle.std.specs.Option.{option_copied}
use Rattle.std.proofs.lemmas.Int.{to_z-of_z}
use Rattle.interpolation.specs.Shares.{AreShares}
use Rattle.interpolation.proofs.Bounds.{HasSmallWeights-covered}
use Rattle.interpolation.proofs.Positive.{ArePositive-covered}
use Rattle.texture_env.proofs.Shaded.{shaded-is}
use Rattle.texture_env.proofs.shading.shade_plainly.Goals as goal

pub shares_at-shares-requires-clause-small : goal.shares_at-shares-requires-clause-small
shares_at-shares-requires-clause-small c =
    let x_fits : FitsSigned w32 c.args.x = c.ranges.x in
    let y_fits : FitsSigned w32 c.args.y = c.ranges.y in
    simp to_z-of_z (HasSmallWeights-covered c.args.prim.now c.args.x c.args.y c.requires.in_range c.requires.covered)

pub interpolated_color-primary-requires : goal.interpolated_color-primary-requires
interpolated_color-primary-requires c =
    let x_fits : FitsSigned w32 c.args.x = c.ranges.x in
    let y_fits : FitsSigned w32 c.args.y = c.ranges.y in
    let shares : AreShares c.shares_at-shares.result c.args.prim.now c.args.x c.args.y = simp to_z-of_z at c.shares_at-shares.ensures.shares in
    ArePositive-covered c.shares_at-shares.result c.args.prim.now c.args.x c.args.y c.requires.in_range c.requires.covered shares

pub fogged-requires : goal.fogged-requires
fogged-requires c =
    let x_fits : FitsSigned w32 c.args.x = c.ranges.x in
    let y_fits : FitsSigned w32 c.args.y = c.ranges.y in
    let shares : AreShares c.shares_at-shares.result c.args.prim.now c.args.x c.args.y = simp to_z-of_z at c.shares_at-shares.ensures.shares in
    ArePositive-covered c.shares_at-shares.result c.args.prim.now c.args.x c.args.y c.requires.in_range c.requires.covered shares

pub returns : goal.returns
returns c =
    let x_fits : FitsSigned w32 c.args.x = c.ranges.x in
    let y_fits : FitsSigned w32 c.args.y = c.ranges.y in
    let shares : AreShares c.shares_at-shares.result c.args.prim.now c.args.x c.args.y = simp to_z-of_z at c.shares_at-shares.ensures.shares in
    shaded-is c.args.state.now (option_copied c.args.first) (option_copied c.args.second) c.args.prim.now c.args.x c.args.y
    c.interpolated_color-primary.result c.textured-below.result c.textured-color.result c.fogged.result
    (c.interpolated_color-primary.ensures c.args.x c.args.y shares)
    (c.textured-below.ensures c.args.x c.args.y shares)
    (c.textured-color.ensures c.args.x c.args.y shares)
    (c.fogged.ensures c.args.x c.args.y shares)
