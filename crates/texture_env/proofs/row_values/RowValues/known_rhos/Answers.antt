use Rattle.std.proofs.Common.{arith, ◌≡◌, ◌+◌, ◌≤◌, ◌<◌, ◌∙◌}
use Rattle.gl_records.specs.declared.prim.PrimKind.TheVariants.{Point}
use Rattle.texture_env.specs.Lines.{known_at}
use Rattle.texture_env.proofs.Rhos.{rho-known}
use Rattle.texture_env.proofs.row_values.RowValues.known_rhos.Goals as goal

pub returns-in-Some-Some : goal.returns-in-Some-Some
returns-in-Some-Some c known i less set =
    let values = c.self.inside.values.now in
    let row = c.self.inside.row in
    let here = c.in-Some-Some.here.now in
    let above = c.in-Some-Some.above.now in
    let other : values.prim.kind ≡ Point → ⊥ = λ e. c.in_default.not-Point (rw c.prim-prim.ensures e) in
    let first = c.run_of-first.ensures.first i set in
    let last = c.run_of-first.ensures.last i set in
    let beside : i + 1 < c.run_of-first.result.1 + 1 = omega (arith, last) in
    let inside : i < c.run_of-first.result.1 + 1 = omega (arith, last) in
    let begun : c.run_of-first.result.0 ≤ i + 1 = omega (arith, first) in
    let are_here = c.in-Some-Some.ensures values c.self.invariant.1 in
    let are_above = c.in-Some-Some.ensures' values c.self.invariant.2 in
    rw (← c.self.view_is)
    (c.known_move_row.ensures i less
    ∙ rho-known values c.args.k c.args.w c.args.h i row (known_at here i) (known_at here (i + 1)) (known_at above i) other
    (are_here i first inside) (are_here (i + 1) begun beside) (are_above i first last))
