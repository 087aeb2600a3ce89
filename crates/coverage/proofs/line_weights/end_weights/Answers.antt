use Rattle.std.proofs.Common.{rules, arith, ◌≡◌, FitsSigned, w32, w64, pos, ◌-ℤ◌}
use Rattle.std.proofs.lemmas.Int.{ints, to_z-of_z}
use Rattle.gl_records.specs.Center.{center}
use Rattle.coverage.proofs.line_weights.end_weights.Goals as goal

pub returns : goal.returns
returns c =
    let start_fits : FitsSigned w32 c.args.start = c.ranges.start in
    let end_fits : FitsSigned w32 c.args.end = c.ranges.end in
    let along_fits : FitsSigned w32 c.args.along = c.ranges.along in
    let run_fits : FitsSigned w64 c.span-run.result = search rules in
    let reach_fits : FitsSigned w64 c.reach.result = search rules in
    let reach_2_fits : FitsSigned w64 c.reach-2.result = search rules in
    let first_fits : FitsSigned w64 c.directed.result = search rules in
    let second_fits : FitsSigned w64 c.directed-2.result = search rules in
    let small = c.reach.ensures.small in
    let back_fits : FitsSigned w64 (pos 0 -ℤ c.reach.result) = omega (arith, ints, small) in
    let run_is = simp to_z-of_z at c.span-run.ensures in
    let reach_is = simp to_z-of_z at c.reach.ensures.value in
    let reach_2_is = simp to_z-of_z at c.reach-2.ensures.value in
    let back : pos 0 -ℤ c.reach.result ≡ c.args.end -ℤ center c.args.along = omega (arith, ints, reach_is) in
    let first = simp to_z-of_z at c.directed.ensures in
    let second = simp to_z-of_z at c.directed-2.ensures in
    simp to_z-of_z (rw (first, second, run_is, reach_2_is, back))
