use Rattle.std.proofs.Common.{◌≡◌, ◌≤◌, ◌^◌, ◌∙◌, unsigned_abs, FitsSigned, arith, rules}
use Rattle.std.proofs.lemmas.Int.{ints, to_z-of_z}
use Rattle.matrix_stacks.proofs.Widths.{product_128, product_128-bound}
use Rattle.matrix_stacks.proofs.normals.times.Goals as goal
use mir.Syntax.{w32}

pub returns-clause-value : goal.returns-clause-value
returns-clause-value c =
    let fits : FitsSigned w32 c.args.a.0 = search rules in
    let same : c.from.result ≡ c.args.a.0 = c.from.ensures ∙ to_z-of_z w32 c.args.a.0 fits in
    let small : unsigned_abs c.args.a.0 ≤ 2 ^ 31 = omega (arith, ints) in
    rw same (product_128 c.args.cofactor c.args.a.0 c.requires small)

pub returns-clause-bound : goal.returns-clause-bound
returns-clause-bound c =
    let fits : FitsSigned w32 c.args.a.0 = search rules in
    let same : c.from.result ≡ c.args.a.0 = c.from.ensures ∙ to_z-of_z w32 c.args.a.0 fits in
    let small : unsigned_abs c.args.a.0 ≤ 2 ^ 31 = omega (arith, ints) in
    rw same (product_128-bound c.args.cofactor c.args.a.0 c.requires small)
