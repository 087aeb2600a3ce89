use Rattle.std.proofs.Common.{rules, arith, pos, ◌<ℤ◌, ◌≤ℤ◌, FitsSigned, w32, w64}
use Rattle.std.proofs.lemmas.Int.{ints, to_z-of_z}
use Rattle.gl_records.specs.Center.{center}
use Rattle.coverage.proofs.RunLemmas.{passed-up, passed-down}
use Rattle.coverage.proofs.line.is_passed.Goals as goal

pub returns-then-from_start-ge0 : goal.returns-then-from_start-ge0
returns-then-from_start-ge0 c =
    let start_fits : FitsSigned w32 c.args.start = c.ranges.start in
    let end_fits : FitsSigned w32 c.args.end = c.ranges.end in
    let along_fits : FitsSigned w32 c.args.along = c.ranges.along in
    let u_fits : FitsSigned w64 c.reach-from_start.result = search rules in
    let v_fits : FitsSigned w64 c.reach-from_end.result = search rules in
    let u_is = simp to_z-of_z at c.reach-from_start.ensures.value in
    let v_is = simp to_z-of_z at c.reach-from_end.ensures.value in
    let up : c.args.start <ℤ c.args.end = omega (arith, ints) in
    let from : pos 0 ≤ℤ c.reach-from_start.result = omega (arith, ints) in
    simp to_z-of_z
    (record { value = passed-up c.args.start c.args.end (center c.args.along) c.reach-from_start.result c.reach-from_end.result up u_is v_is from })

pub returns-then-from_start-le0 : goal.returns-then-from_start-le0
returns-then-from_start-le0 c =
    let start_fits : FitsSigned w32 c.args.start = c.ranges.start in
    let end_fits : FitsSigned w32 c.args.end = c.ranges.end in
    let along_fits : FitsSigned w32 c.args.along = c.ranges.along in
    let u_fits : FitsSigned w64 c.reach-from_start.result = search rules in
    let v_fits : FitsSigned w64 c.reach-from_end.result = search rules in
    let u_is = simp to_z-of_z at c.reach-from_start.ensures.value in
    let v_is = simp to_z-of_z at c.reach-from_end.ensures.value in
    let down : c.args.end ≤ℤ c.args.start = omega (arith, ints) in
    let from : c.reach-from_start.result ≤ℤ pos 0 = omega (arith, ints) in
    simp to_z-of_z
    (record { value = passed-down c.args.start c.args.end (center c.args.along) c.reach-from_start.result c.reach-from_end.result down u_is v_is from })
