use Rattle.std.proofs.Common.{rules, ◌≡◌, sym, ◌∙◌, true, false, pos, ◌+◌, FitsSigned, w32}
use Rattle.std.proofs.lemmas.Int.{to_z-of_z}
use Rattle.gl_records.specs.LineCoverage.{is_x_major}
use Rattle.coverage.proofs.RunLemmas.{x_major_bit, y_major_bit}
use Rattle.coverage.proofs.line.line_rows.Goals as goal

pub returns-then-is_x_major : goal.returns-then-is_x_major
returns-then-is_x_major c r i down along =
    let ax_fits : FitsSigned w32 c.args.a.now.x = search rules in
    let ay_fits : FitsSigned w32 c.args.a.now.y = search rules in
    let bx_fits : FitsSigned w32 c.args.b.now.x = search rules in
    let by_fits : FitsSigned w32 c.args.b.now.y = search rules in
    let major : is_x_major c.args.a.now c.args.b.now ≡ true = sym c.is_x_major.ensures ∙ c.if-is_x_major.true in
    let bit = simp to_z-of_z at (c.runs.ensures i r along down) in
    x_major_bit c.args.a.now c.args.b.now c.args.width (pos (c.args.tile.x0 + i)) (pos (c.args.tile.y0 + r)) _ major
    (c.transposed.ensures r i down along ∙ bit)

pub returns-else-is_x_major : goal.returns-else-is_x_major
returns-else-is_x_major c r i down along =
    let ax_fits : FitsSigned w32 c.args.a.now.x = search rules in
    let ay_fits : FitsSigned w32 c.args.a.now.y = search rules in
    let bx_fits : FitsSigned w32 c.args.b.now.x = search rules in
    let by_fits : FitsSigned w32 c.args.b.now.y = search rules in
    let major : is_x_major c.args.a.now c.args.b.now ≡ false = sym c.is_x_major.ensures ∙ c.if-is_x_major.false in
    let bit = simp to_z-of_z at (c.runs-else-is_x_major.ensures r i down along) in
    y_major_bit c.args.a.now c.args.b.now c.args.width (pos (c.args.tile.x0 + i)) (pos (c.args.tile.y0 + r)) _ major bit
