use Rattle.std.proofs.Common.{rules, FitsSigned, w32}
use Rattle.std.proofs.lemmas.Int.{to_z-of_z}
use Rattle.primitive_setup.specs.LineSetup.{line_bounds}
use Rattle.primitive_setup.proofs.line.line_bounds.Goals as goal

pub returns : goal.returns
unfolding line_bounds
returns c =
    let ax_fits : FitsSigned w32 c.args.a.now.x = search rules in
    let ay_fits : FitsSigned w32 c.args.a.now.y = search rules in
    let bx_fits : FitsSigned w32 c.args.b.now.x = search rules in
    let by_fits : FitsSigned w32 c.args.b.now.y = search rules in
    let left_fits : FitsSigned w32 c.first_near.result = search rules in
    let bottom_fits : FitsSigned w32 c.first_near-2.result = search rules in
    let right_fits : FitsSigned w32 c.end_near.result = search rules in
    let top_fits : FitsSigned w32 c.end_near-2.result = search rules in
    let left = simp to_z-of_z at c.first_near.ensures in
    let bottom = simp to_z-of_z at c.first_near-2.ensures in
    let right = simp to_z-of_z at c.end_near.ensures in
    let top = simp to_z-of_z at c.end_near-2.ensures in
    rw (left, bottom, right, top) at (simp to_z-of_z at c.cut.ensures)
