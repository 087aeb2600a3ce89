use Rattle.std.proofs.Common.{rules, FitsSigned, w32, w64, pos, ◌+◌}
use Rattle.std.proofs.lemmas.Int.{to_z-of_z}
use Rattle.coverage.proofs.RunLemmas.{square_bit}
use Rattle.coverage.proofs.point.point_rows.Goals as goal

pub returns : goal.returns
returns c r i down along =
    let x_fits : FitsSigned w32 c.args.v.now.x = search rules in
    let y_fits : FitsSigned w32 c.args.v.now.y = search rules in
    let first_fits : FitsSigned w32 c.first_about.result = search rules in
    let first_2_fits : FitsSigned w32 c.first_about-2.result = search rules in
    let from_fits : FitsSigned w64 c.from.result = search rules in
    let from_2_fits : FitsSigned w64 c.from-2.result = search rules in
    let first_is = simp to_z-of_z at c.first_about.ensures.value in
    let first_2_is = simp to_z-of_z at c.first_about-2.ensures.value in
    let from_is = simp to_z-of_z at c.from.ensures in
    let from_2_is = simp to_z-of_z at c.from-2.ensures in
    let column = rw (from_is, first_is) at (simp to_z-of_z at (c.run_bits-columns.ensures i along)) in
    let row = rw (from_2_is, first_2_is) at (simp to_z-of_z at (c.run_bits-rows.ensures r down)) in
    square_bit c.args.v.now c.args.size (pos (c.args.tile.x0 + i)) (pos (c.args.tile.y0 + r)) _ _ _ (c.repeated.ensures r i down along) column row
