use Rattle.std.proofs.Common.{sym, FitsSigned, w32}
use Rattle.std.proofs.lemmas.Int.{to_z-of_z}
use Rattle.interpolation.proofs.frame.Frame.fog_of.Goals as goal

pub returns : goal.returns
returns c =
    let a_fits : FitsSigned w32 c.args.a = c.ranges.a in
    let b_fits : FitsSigned w32 c.args.b = c.ranges.b in
    let c_fits : FitsSigned w32 c.args.c = c.ranges.c in
    c.ratio.ensures (λ v. v.fog)
    (simp to_z-of_z (sym c.requires.first)) (simp to_z-of_z (sym c.requires.second)) (simp to_z-of_z (sym c.requires.third))
