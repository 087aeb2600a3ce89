use Rattle.std.proofs.Common.{◌≡◌, rules, arith, pos, ◌+ℤ◌, FitsSigned, w32}
use Rattle.std.proofs.lemmas.Int.{ints, to_z-of_z}
use Rattle.primitive_setup.specs.PointSetup.{point_bounds}
use Rattle.primitive_setup.proofs.point.point_bounds.Goals as goal

pub returns : goal.returns
unfolding point_bounds
returns c =
    let x_fits : FitsSigned w32 c.args.v.now.x = search rules in
    let y_fits : FitsSigned w32 c.args.v.now.y = search rules in
    let left_fits : FitsSigned w32 c.first_about-left.result = search rules in
    let bottom_fits : FitsSigned w32 c.first_about-bottom.result = search rules in
    let side_fits : FitsSigned w32 c.from-side.result = search rules in
    let side_is : c.from-side.result ≡ pos c.args.width = c.from-side.ensures in
    let right_fits : FitsSigned w32 (c.first_about-left.result +ℤ c.from-side.result) =
    omega (arith, ints, side_is, c.requires.width_to, c.first_about-left.ensures.at_least, c.first_about-left.ensures.at_most) in
    let top_fits : FitsSigned w32 (c.first_about-bottom.result +ℤ c.from-side.result) =
    omega (arith, ints, side_is, c.requires.width_to, c.first_about-bottom.ensures.at_least, c.first_about-bottom.ensures.at_most) in
    let left = simp to_z-of_z at c.first_about-left.ensures.value in
    let bottom = simp to_z-of_z at c.first_about-bottom.ensures.value in
    rw (left, bottom, side_is) at (simp to_z-of_z at c.cut.ensures)
