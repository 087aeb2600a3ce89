use Rattle.std.proofs.Common.{ap, rules, ◌≡◌, FitsSigned, w32}
use Rattle.std.specs.Int.{w128}
use Rattle.std.proofs.lemmas.Int.{to_z-of_z}
use Rattle.std.proofs.lemmas.Option.{IfSome_then}
use Rattle.plane_equations.specs.Planes.{IsPlane}
use Rattle.interpolation.specs.Shares.{shared}
use Rattle.interpolation.specs.TileValues.{OnTile}
use Rattle.interpolation.proofs.Frames.{IsSumPlane-from}
use Rattle.interpolation.proofs.frame.Frame.plane.Goals as goal

pub returns : goal.returns
returns c value first second third =
    let a_fits : FitsSigned w32 c.args.a = c.ranges.a in
    let b_fits : FitsSigned w32 c.args.b = c.ranges.b in
    let c_fits : FitsSigned w32 c.args.c = c.ranges.c in
    let sum_fits : FitsSigned w128 c.sum.result = search rules in
    let right_fits : FitsSigned w128 c.sum-2.result = search rules in
    let up_fits : FitsSigned w128 c.sum-3.result = search rules in
    let origin : c.sum.result ≡ shared c.self.inside.origin c.args.a c.args.b c.args.c = simp to_z-of_z at c.sum.ensures.value in
    let right : c.sum-2.result ≡ shared c.self.inside.slopes.right c.args.a c.args.b c.args.c = simp to_z-of_z at c.sum-2.ensures.value in
    let up : c.sum-3.result ≡ shared c.self.inside.slopes.up c.args.a c.args.b c.args.c = simp to_z-of_z at c.sum-3.ensures.value in
    let prim_is : c.self.inside.prim.now ≡ c.args.self.now.prim = ap (λ (on : OnTile). on.prim) c.self.view_is in
    let rect_is : c.self.inside.rect ≡ c.args.self.now.rect = ap (λ (on : OnTile). on.rect) c.self.view_is in
    rw (← prim_is, ← rect_is)
    (IfSome_then c.narrowed.result c.narrowed.ensures.plane
    (λ plane is.
    let plain : IsPlane c.sum.result c.sum-2.result c.sum-3.result plane = simp to_z-of_z at is in
    IsSumPlane-from c.self.inside.prim.now c.self.inside.rect c.self.inside.origin c.self.inside.slopes plane value c.args.a c.args.b c.args.c
    c.self.invariant.1 (rw prim_is first) (rw prim_is second) (rw prim_is third) (rw (← origin, ← right, ← up) plain)))
