use Rattle.std.proofs.Common.{◌≡◌, rules, arith, pos, ◌+◌, ◌<◌, ◌≢◌, length, below_more, get_or-set_same, get_or-set_other, length-set, to_z, of_z, w32, FitsSigned}
use Rattle.std.proofs.lemmas.Int.{ints, to_z-of_z}
use Rattle.coverage.proofs.line.runs.Goals as goal

pub loop-k-preserved : goal.loop-k-preserved
loop-k-preserved c = record {
  count = simp length-set c.loop-k.invariant.count;
  done = below_more _ _
      (λ k less r within.
      let other : k ≢ c.loop-k.k = omega arith in
      rw get_or-set_other (c.loop-k.invariant.done k less r within))
      (λ r within.
      let inside : c.loop-k.k < length c.loop-k.bits = omega arith in
      let from_fits : FitsSigned w32 c.from.result = search rules in
      let from_is : c.from.result ≡ pos c.args.along = c.from.ensures in
      let along_to = c.ranges.along in
      let k_is : to_z w32 c.loop-k.k ≡ pos c.loop-k.k = omega (arith, ints, c.loop-k-test.true) in
      let sum_fits : FitsSigned w32 (pos (c.args.along + c.loop-k.k)) = omega (arith, ints, along_to, c.loop-k-test.true) in
      let from_word : to_z w32 (of_z w32 c.from.result) ≡ pos c.args.along = simp to_z-of_z from_is in
      let bit = simp to_z-of_z at (rw (k_is, from_word) at (c.run.ensures r within)) in
      rw get_or-set_same bit);
}
