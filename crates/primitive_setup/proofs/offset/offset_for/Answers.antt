use Rattle.std.proofs.Common.{◌≡◌, ◌*◌, ap, ◌∙◌, arith}
use Rattle.std.specs.Prelude.{pos, negsuc, ◌+ℤ◌, ◌*ℤ◌}
use Rattle.std.proofs.lemmas.Int.{ints}
use Rattle.fx_arith.specs.Number.{clamp, floor_div}
use mir.Syntax.{w32, w128}
use mir.Val.{to_z, of_z}
use Rattle.primitive_setup.specs.Offset.{offset_for}
use Rattle.primitive_setup.proofs.offset.offset_for.Goals as goal

pub returns-clause-value : goal.returns-clause-value
unfolding offset_for
returns-clause-value c =
    let read : to_z w32 (of_z w32 c.clamp_wide.result) ≡ c.clamp_wide.result = omega (arith, ints) in
    let sum : to_z w128 (of_z w128 (to_z w128 (of_z w128 c.slope_part.result) +ℤ to_z w128 (of_z w128 c.from.result))) ≡ c.slope_part.result +ℤ c.whole.result =
    omega (arith, ints) in
    read ∙ c.clamp_wide.ensures.value ∙ ap (λ n. clamp (negsuc 33554431) (pos 33554432) n)
    (sum ∙ ap (λ n. n +ℤ c.whole.result) c.slope_part.ensures.value
    ∙ ap (λ n. floor_div (pos 16 *ℤ pos c.args.slope *ℤ c.args.factor.0) (65536 * c.args.area) +ℤ n) c.whole.ensures)
