use Rattle.std.proofs.Common.{◌≡◌, ap, ◌∙◌, arith}
use Rattle.std.specs.Prelude.{pos, ◌*ℤ◌}
use Rattle.std.proofs.lemmas.Int.{ints}
use Rattle.fx_arith.specs.Number.{clamp, floor_quotient}
use mir.Syntax.{w64, w32, w128}
use mir.Val.{to_z, of_z}
use Rattle.primitive_setup.specs.Window.{depth_of}
use Rattle.primitive_setup.proofs.window.depth.Goals as goal

pub returns-clause-value : goal.returns-clause-value
unfolding depth_of
returns-clause-value c =
    let read : to_z w32 (of_z w32 c.clamp_wide.result) ≡ c.clamp_wide.result = omega (arith, ints) in
    let quotient : to_z w128 (of_z w128 c.floor_quotient_wide.result) ≡ c.floor_quotient_wide.result = omega (arith, ints) in
    let weighted : to_z w128 (of_z w128 (pos 16777215 *ℤ to_z w128 (of_z w128 c.from-weighted.result))) ≡ pos 16777215 *ℤ c.between.result = omega (arith, ints) in
    let divisor : to_z w64 (of_z w64 (pos 131072 *ℤ to_z w64 (of_z w64 c.from.result))) ≡ pos 131072 *ℤ c.args.w.0 = omega (arith, ints) in
    read ∙ c.clamp_wide.ensures.value ∙ ap (λ n. clamp (pos 0) (pos 16777215) n)
    (quotient ∙ c.floor_quotient_wide.ensures.value
    ∙ ap (λ n. floor_quotient n (to_z w64 (of_z w64 (pos 131072 *ℤ to_z w64 (of_z w64 c.from.result))))) weighted
    ∙ ap (λ n. floor_quotient (pos 16777215 *ℤ c.between.result) n) divisor
    ∙ ap (λ n. floor_quotient (pos 16777215 *ℤ n) (pos 131072 *ℤ c.args.w.0)) c.between.ensures.value)
