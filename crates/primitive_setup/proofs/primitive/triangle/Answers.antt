use Rattle.std.proofs.Common.{◌≡◌, ◌∙◌, sym, arith}
use Rattle.std.proofs.lemmas.Int.{ints}
use mir.Syntax.{w64}
use mir.Val.{to_z, of_z}
use Rattle.gl_records.specs.ClipVertex.{vertex}
use Rattle.primitive_setup.proofs.Made.{int_eq-zero, triangle_is}
use Rattle.primitive_setup.proofs.primitive.triangle.Goals as goal

pub returns-clause-value : goal.returns-clause-value
returns-clause-value c =
    let area = to_z w64 (of_z w64 c.doubled_area-area.result) in
    let read : area ≡ c.doubled_area-area.result = omega (arith, ints, c.doubled_area-area.ensures.bound) in
    triangle_is c.args.rules.now c.args.size (vertex c.args.v.now 0) (vertex c.args.v.now 1) (vertex c.args.v.now 2)
    c.viewport_transform-a.result c.viewport_transform-b.result c.viewport_transform-c.result area
    c.faces_front-front.result c.takes_back_colors-behind.result c.corner-a.result c.corner-b.result c.corner-c.result c.counterclockwise_triangle.result
    c.viewport_transform-a.ensures.value c.viewport_transform-b.ensures.value c.viewport_transform-c.ensures.value
    (read ∙ c.doubled_area-area.ensures.value)
    (int_eq-zero area (λ zero. c.if-area-eq0.false (omega (arith, ints, c.doubled_area-area.ensures.bound, zero))))
    c.faces_front-front.ensures (sym c.is_culled.ensures ∙ c.if-is_culled.false) c.takes_back_colors-behind.ensures
    c.corner-a.ensures.value c.corner-b.ensures.value c.corner-c.ensures.value c.counterclockwise_triangle.ensures.value
