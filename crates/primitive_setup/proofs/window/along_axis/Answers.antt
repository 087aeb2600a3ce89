use Rattle.std.proofs.Common.{◌≡◌, ap, ◌∙◌, arith}
use Rattle.std.specs.Prelude.{pos, ◌*ℤ◌, ◌+ℤ◌}
use Rattle.std.proofs.lemmas.Int.{ints}
use Rattle.fx_arith.specs.Number.{floor_quotient}
use mir.Syntax.{w64, w32}
use mir.Val.{to_z, of_z}
use Rattle.primitive_setup.specs.Window.{along_axis}
use Rattle.primitive_setup.proofs.Clamps.{clamp_same}
use Rattle.primitive_setup.proofs.window.along_axis.Goals as goal

pub returns-clause-value : goal.returns-clause-value
unfolding along_axis
returns-clause-value c =
    let read : to_z w32 (of_z w32 c.clamp_to.result) ≡ c.clamp_to.result = omega (arith, ints) in
    let half : to_z w32 (of_z w32 (pos 8 *ℤ to_z w32 (of_z w32 c.args.side))) ≡ pos 8 *ℤ c.args.side = omega (arith, ints) in
    let middle : c.from.result ≡ pos 16 *ℤ c.args.start +ℤ pos 8 *ℤ c.args.side = omega (arith, ints) in
    let moved : c.from_middle.result ≡ floor_quotient (pos 8 *ℤ c.args.side *ℤ c.args.clip.0) c.args.w.0 =
    c.from_middle.ensures.value ∙ ap (λ n. floor_quotient (n *ℤ c.args.clip.0) c.args.w.0) half in
    let place : to_z w64 (of_z w64 (to_z w64 (of_z w64 c.from.result) +ℤ to_z w64 (of_z w64 c.from_middle.result))) ≡ pos 16 *ℤ c.args.start +ℤ pos 8 *ℤ c.args.side +ℤ c.from_middle.result = omega (arith, ints) in
    read ∙ clamp_same _ _ _ _ _ _ _ c.clamp_to.ensures.value (omega (arith, ints)) (omega (arith, ints)) (place ∙ ap (λ n. pos 16 *ℤ c.args.start +ℤ pos 8 *ℤ c.args.side +ℤ n) moved)
