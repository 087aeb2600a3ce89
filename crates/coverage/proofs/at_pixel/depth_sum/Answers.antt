use Rattle.std.proofs.Common.{rules, FitsSigned, w32, w64, ◌+ℤ◌}
use Rattle.std.proofs.lemmas.Int.{to_z-of_z}
use Rattle.coverage.proofs.WeightLemmas.{IsShare, weight-to, two_fit, three_fit}
use Rattle.coverage.proofs.at_pixel.depth_sum.Goals as goal

pub overflow_add-result : goal.overflow_add-result
overflow_add-result c =
    let u_fits : FitsSigned w64 c.args.u = c.ranges.u in
    let v_fits : FitsSigned w64 c.args.v = c.ranges.v in
    let first_fits : FitsSigned w64 c.share.result = search rules in
    let second_fits : FitsSigned w64 c.share-2.result = search rules in
    let first : IsShare c.args.u c.share.result =
    record { from = simp to_z-of_z at c.share.ensures.from; to = simp to_z-of_z at c.share.ensures.to } in
    let second : IsShare c.args.v c.share-2.result =
    record { from = simp to_z-of_z at c.share-2.ensures.from; to = simp to_z-of_z at c.share-2.ensures.to } in
    simp to_z-of_z (two_fit c.args.u c.args.v c.args.w c.share.result c.share-2.result c.requires.weights first second)

pub share-requires-3-clause-weight_to : goal.share-requires-3-clause-weight_to
share-requires-3-clause-weight_to c =
    let fits : FitsSigned w64 c.args.w = c.ranges.w in
    simp to_z-of_z (weight-to c.args.u c.args.v c.args.w c.requires.weights).2

pub overflow_add-result-2 : goal.overflow_add-result-2
overflow_add-result-2 c =
    let u_fits : FitsSigned w64 c.args.u = c.ranges.u in
    let v_fits : FitsSigned w64 c.args.v = c.ranges.v in
    let w_fits : FitsSigned w64 c.args.w = c.ranges.w in
    let first_fits : FitsSigned w64 c.share.result = search rules in
    let second_fits : FitsSigned w64 c.share-2.result = search rules in
    let third_fits : FitsSigned w64 c.share-3.result = search rules in
    let first : IsShare c.args.u c.share.result =
    record { from = simp to_z-of_z at c.share.ensures.from; to = simp to_z-of_z at c.share.ensures.to } in
    let second : IsShare c.args.v c.share-2.result =
    record { from = simp to_z-of_z at c.share-2.ensures.from; to = simp to_z-of_z at c.share-2.ensures.to } in
    let third : IsShare c.args.w c.share-3.result =
    record { from = simp to_z-of_z at c.share-3.ensures.from; to = simp to_z-of_z at c.share-3.ensures.to } in
    let fits : FitsSigned w64 (c.share.result +ℤ c.share-2.result) =
    two_fit c.args.u c.args.v c.args.w c.share.result c.share-2.result c.requires.weights first second in
    simp to_z-of_z
    (three_fit c.args.u c.args.v c.args.w c.share.result c.share-2.result c.share-3.result c.requires.weights
    first second third)

pub returns : goal.returns
returns c =
    let u_fits : FitsSigned w64 c.args.u = c.ranges.u in
    let v_fits : FitsSigned w64 c.args.v = c.ranges.v in
    let w_fits : FitsSigned w64 c.args.w = c.ranges.w in
    let a_fits : FitsSigned w32 c.args.a = c.ranges.a in
    let b_fits : FitsSigned w32 c.args.b = c.ranges.b in
    let c_fits : FitsSigned w32 c.args.c = c.ranges.c in
    let first_fits : FitsSigned w64 c.share.result = search rules in
    let second_fits : FitsSigned w64 c.share-2.result = search rules in
    let third_fits : FitsSigned w64 c.share-3.result = search rules in
    let first : IsShare c.args.u c.share.result =
    record { from = simp to_z-of_z at c.share.ensures.from; to = simp to_z-of_z at c.share.ensures.to } in
    let second : IsShare c.args.v c.share-2.result =
    record { from = simp to_z-of_z at c.share-2.ensures.from; to = simp to_z-of_z at c.share-2.ensures.to } in
    let third : IsShare c.args.w c.share-3.result =
    record { from = simp to_z-of_z at c.share-3.ensures.from; to = simp to_z-of_z at c.share-3.ensures.to } in
    let two : FitsSigned w64 (c.share.result +ℤ c.share-2.result) =
    two_fit c.args.u c.args.v c.args.w c.share.result c.share-2.result c.requires.weights first second in
    let three : FitsSigned w64 (c.share.result +ℤ c.share-2.result +ℤ c.share-3.result) =
    three_fit c.args.u c.args.v c.args.w c.share.result c.share-2.result c.share-3.result c.requires.weights
    first second third in
    let u_is = simp to_z-of_z at c.share.ensures.value in
    let v_is = simp to_z-of_z at c.share-2.ensures.value in
    let w_is = simp to_z-of_z at c.share-3.ensures.value in
    simp to_z-of_z (rw (u_is, v_is, w_is))
