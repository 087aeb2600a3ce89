use Rattle.std.proofs.Common.{◌≡◌, ◌∙◌, ap, arith}
use Rattle.std.specs.Prelude.{◌-ℤ◌, ◌*ℤ◌}
use Rattle.std.proofs.lemmas.Int.{ints}
use mir.Syntax.{w64}
use mir.Val.{to_z, of_z}
use Rattle.gl_records.specs.Coverage.{doubled_area}
use Rattle.std.proofs.Math.IntN.{*ℤ_comm}
use Rattle.primitive_setup.proofs.Words.{cross_same}
use Rattle.primitive_setup.proofs.facing.doubled_area.Goals as goal

pub returns-clause-value : goal.returns-clause-value
unfolding doubled_area
returns-clause-value c =
    let read : to_z w64 (of_z w64 c.cross.result) ≡ c.cross.result = omega (arith, ints, c.cross.ensures.bound) in
    let ux : to_z w64 (of_z w64 c.span.result) ≡ c.args.b.x -ℤ c.args.a.x = omega (arith, ints) in
    let uy : to_z w64 (of_z w64 c.span-2.result) ≡ c.args.b.y -ℤ c.args.a.y = omega (arith, ints) in
    let vx : to_z w64 (of_z w64 c.span-3.result) ≡ c.args.c.x -ℤ c.args.a.x = omega (arith, ints) in
    let vy : to_z w64 (of_z w64 c.span-4.result) ≡ c.args.c.y -ℤ c.args.a.y = omega (arith, ints) in
    let across = (c.args.b.x -ℤ c.args.a.x) *ℤ (c.args.c.y -ℤ c.args.a.y) in
    read ∙ cross_same _ _ _ _ _ _ _ _ _ c.cross.ensures.value ux uy vx vy
    ∙ ap (λ n. across -ℤ n) (*ℤ_comm (c.args.c.x -ℤ c.args.a.x) (c.args.b.y -ℤ c.args.a.y))
