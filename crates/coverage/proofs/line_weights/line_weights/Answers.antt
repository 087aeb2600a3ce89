use Rattle.std.proofs.Common.{rules, ◌≡◌, sym, ◌∙◌, true, false, FitsSigned, w32}
use Rattle.std.proofs.lemmas.Int.{to_z-of_z}
use Rattle.gl_records.specs.LineCoverage.{is_x_major, line_weight}
use Rattle.coverage.proofs.line_weights.line_weights.Goals as goal

pub returns-then-is_x_major : goal.returns-then-is_x_major
unfolding line_weight
returns-then-is_x_major c =
    let a_fits : FitsSigned w32 c.args.a.now.x = search rules in
    let b_fits : FitsSigned w32 c.args.b.now.x = search rules in
    let x_fits : FitsSigned w32 c.args.x = c.ranges.x in
    let y_fits : FitsSigned w32 c.args.y = c.ranges.y in
    let major : is_x_major c.args.a.now c.args.b.now ≡ true = sym c.is_x_major.ensures ∙ c.if-is_x_major.true in
    rw major (simp to_z-of_z at c.end_weights.ensures)

pub returns-else-is_x_major : goal.returns-else-is_x_major
unfolding line_weight
returns-else-is_x_major c =
    let a_fits : FitsSigned w32 c.args.a.now.y = search rules in
    let b_fits : FitsSigned w32 c.args.b.now.y = search rules in
    let x_fits : FitsSigned w32 c.args.x = c.ranges.x in
    let y_fits : FitsSigned w32 c.args.y = c.ranges.y in
    let major : is_x_major c.args.a.now c.args.b.now ≡ false = sym c.is_x_major.ensures ∙ c.if-is_x_major.false in
    rw major (simp to_z-of_z at c.end_weights-else-is_x_major.ensures)
