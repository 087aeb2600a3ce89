use Rattle.std.proofs.Common.{◌≡◌, ◌∙◌, arith}
use Rattle.std.specs.Prelude.{◌-ℤ◌}
use Rattle.std.proofs.lemmas.Int.{ints}
use mir.Syntax.{w64}
use mir.Val.{to_z, of_z}
use Rattle.primitive_setup.proofs.Words.{cross_same}
use Rattle.primitive_setup.proofs.offset.slope_along_x.Goals as goal

pub returns-clause-value : goal.returns-clause-value
returns-clause-value c =
    let read : to_z w64 (of_z w64 c.cross.result) ≡ c.cross.result = omega (arith, ints, c.cross.ensures.bound) in
    let ux : to_z w64 (of_z w64 c.span.result) ≡ c.args.b.now.z -ℤ c.args.a.now.z = omega (arith, ints) in
    let uy : to_z w64 (of_z w64 c.span-2.result) ≡ c.args.b.now.y -ℤ c.args.a.now.y = omega (arith, ints) in
    let vx : to_z w64 (of_z w64 c.span-3.result) ≡ c.args.c.now.z -ℤ c.args.a.now.z = omega (arith, ints) in
    let vy : to_z w64 (of_z w64 c.span-4.result) ≡ c.args.c.now.y -ℤ c.args.a.now.y = omega (arith, ints) in
    read ∙ cross_same _ _ _ _ _ _ _ _ _ c.cross.ensures.value ux uy vx vy
