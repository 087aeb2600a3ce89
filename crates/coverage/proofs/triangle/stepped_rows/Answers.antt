use Rattle.std.proofs.Common.{arith, ◌<◌, ◌≢◌, length, below_more, get_or-set_same, get_or-set_other, length-set}
use Rattle.coverage.proofs.triangle.stepped_rows.Goals as goal

pub loop-r-preserved : goal.loop-r-preserved
loop-r-preserved c = record {
  count = simp length-set c.loop-r.invariant.count;
  done = below_more _ _
      (λ r less i within.
      let other : r ≢ c.loop-r.r = omega arith in
      rw get_or-set_other (c.loop-r.invariant.done r less i within))
      (λ i within.
      let inside : c.loop-r.r < length c.loop-r.rows = omega arith in
      let row = c.row_within.ensures i within in
      rw (get_or-set_same, row));
}
