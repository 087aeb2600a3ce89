use Rattle.std.proofs.Common.{◌≡◌, ap, ◌∙◌, arith}
use Rattle.std.specs.Prelude.{◌*ℤ◌, ◌+ℤ◌, ◌-ℤ◌}
use Rattle.std.proofs.lemmas.Int.{ints}
use mir.Syntax.{w32}
use mir.Val.{to_z, of_z}
use Rattle.primitive_setup.proofs.Words.{sum_fits, sum_is}
use Rattle.primitive_setup.proofs.window.between.Goals as goal

pub overflow_add-result : goal.overflow_add-result
overflow_add-result c = sum_fits c.product.result c.product-2.result c.product.ensures.bound c.product-2.ensures.bound

pub returns-clause-value : goal.returns-clause-value
returns-clause-value c =
    let difference : to_z w32 (of_z w32 (to_z w32 (of_z w32 c.args.far.0) -ℤ to_z w32 (of_z w32 c.args.near.0))) ≡ c.args.far.0 -ℤ c.args.near.0 = omega (arith, ints) in
    let sum : to_z w32 (of_z w32 (to_z w32 (of_z w32 c.args.near.0) +ℤ to_z w32 (of_z w32 c.args.far.0))) ≡ c.args.near.0 +ℤ c.args.far.0 = omega (arith, ints) in
    sum_is c.product.result c.product-2.result _ _
    (c.product.ensures.value ∙ ap (λ n. n *ℤ c.args.z.0) difference)
    (c.product-2.ensures.value ∙ ap (λ n. n *ℤ c.args.w.0) sum)
    c.product.ensures.bound c.product-2.ensures.bound
