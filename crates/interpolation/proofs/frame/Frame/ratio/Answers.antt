use Rattle.std.proofs.Common.{FitsSigned, w32}
use Rattle.std.proofs.lemmas.Int.{to_z-of_z}
use Rattle.interpolation.proofs.frame.Frame.ratio.Goals as goal

pub returns-in-Some : goal.returns-in-Some
returns-in-Some c value first second third =
    let a_fits : FitsSigned w32 c.args.a = c.ranges.a in
    let b_fits : FitsSigned w32 c.args.b = c.ranges.b in
    let c_fits : FitsSigned w32 c.args.c = c.ranges.c in
    c.ratio_of.ensures value
    (rw c.in-Some.is at (c.plane.ensures value (simp to_z-of_z first) (simp to_z-of_z second) (simp to_z-of_z third)))
