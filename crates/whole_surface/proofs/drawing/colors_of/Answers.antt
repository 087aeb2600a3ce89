use Rattle.std.proofs.Common.{◌≡◌, ◌∙◌, sym, pos, false}
use Rattle.interpolation.specs.TileValues.{IsColorOfCorners}
use Rattle.interpolation.proofs.Colors.{color-same}
use Rattle.whole_surface.specs.Paints.{is_shaded}
use Rattle.whole_surface.proofs.Unshaded.{unshaded}
use Rattle.whole_surface.proofs.drawing.colors_of.Goals as goal

pub returns-in-Some : goal.returns-in-Some
returns-in-Some c x y covered =
    let p = c.args.prim.now in
    let images = c.args.images.now in
    let off : is_shaded c.args.state.now ≡ false = sym c.is_shaded.ensures ∙ c.if-is_shaded.false in
    let flat : IsColorOfCorners p c.in-Some.color = rw c.in-Some.is at c.flat_color.ensures in
    unshaded c.args.state.now images.first images.second p (pos x) (pos y) off
    ∙ color-same p (pos x) (pos y) c.requires.in_range covered flat.second flat.third
    ∙ sym flat.is
