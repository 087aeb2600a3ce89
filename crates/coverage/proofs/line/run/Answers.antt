use Rattle.std.proofs.Common.{rules, sym, ◌∙◌, FitsSigned, w32, w64, pos, ◌+◌}
use Rattle.std.proofs.lemmas.Int.{to_z-of_z}
use Rattle.std.proofs.lemmas.Nat.Bits.{bit_at-zero}
use Rattle.coverage.proofs.RunLemmas.{passed_bit, no_bit}
use Rattle.coverage.proofs.line.run.Goals as goal

pub returns-then-is_passed : goal.returns-then-is_passed
returns-then-is_passed c r within =
    let start_fits : FitsSigned w32 c.args.line.now.start = search rules in
    let end_fits : FitsSigned w32 c.args.line.now.end = search rules in
    let along_fits : FitsSigned w32 c.args.along = c.ranges.along in
    let place_fits : FitsSigned w64 c.minor_place.result = search rules in
    let first_fits : FitsSigned w64 c.first_of_run.result = search rules in
    let passed = simp to_z-of_z at c.is_passed.ensures.value in
    let place_is = simp to_z-of_z at c.minor_place.ensures.value in
    let first_is = simp to_z-of_z at c.first_of_run.ensures.value in
    let bit = simp to_z-of_z at (c.run_bits.ensures r within) in
    passed_bit c.args.line.now c.args.along (pos (c.args.across + r)) c.first_of_run.result _
    (sym passed ∙ c.if-is_passed.true) (rw place_is at first_is) bit

pub returns-else-is_passed : goal.returns-else-is_passed
returns-else-is_passed c r within =
    let start_fits : FitsSigned w32 c.args.line.now.start = search rules in
    let end_fits : FitsSigned w32 c.args.line.now.end = search rules in
    let along_fits : FitsSigned w32 c.args.along = c.ranges.along in
    let passed = simp to_z-of_z at c.is_passed.ensures.value in
    bit_at-zero r ∙ no_bit c.args.line.now c.args.along (pos (c.args.across + r)) (sym passed ∙ c.if-is_passed.false)
