use Rattle.std.proofs.Common.{◌≡◌, ◌∙◌, ap, false, pos, sym}
use Rattle.std.specs.Ordering.{int_eq}
use Rattle.matrix_stacks.specs.Eye.{determinant}
use Rattle.matrix_stacks.proofs.EyeNormals.{component_is, eye_normal_is}
use Rattle.matrix_stacks.proofs.normal_matrix.NormalMatrix.to_eye.Goals as goal

pub returns : goal.returns
returns c =
    let m = c.self.inside.modelview in
    let det = c.self.inside.determinant in
    let same = c.self.invariant.determinant_is in
    let small = c.self.invariant.determinant_bound in
    let first = component_is m 0 c.self.inside.first c.args.n det c.along.result c.over_determinant.result c.self.invariant.first same small c.along.ensures.bound c.along.ensures.value c.over_determinant.ensures in
    let second = component_is m 1 c.self.inside.second c.args.n det c.along-2.result c.over_determinant-2.result c.self.invariant.second same small c.along-2.ensures.bound c.along-2.ensures.value c.over_determinant-2.ensures in
    let third = component_is m 2 c.self.inside.third c.args.n det c.along-3.result c.over_determinant-3.result c.self.invariant.third same small c.along-3.ensures.bound c.along-3.ensures.value c.over_determinant-3.ensures in
    let inverse : int_eq (determinant m) (pos 0) ≡ false =
    ap (λ m. int_eq (determinant m) (pos 0)) c.self.view_is ∙ sym c.has_no_inverse.ensures ∙ c.if-has_no_inverse.false in
    rw (← c.self.view_is) (eye_normal_is m c.args.n _ _ _ inverse first second third)
