use Rattle.std.proofs.Common.{◌≡◌, ◌∙◌, sym, arith, ℕ, ◌≤◌, slice_index}
use Rattle.std.specs.Int.{bit_at}
use Rattle.std.proofs.lemmas.Nat.Bits.{bit_at-lt, shr_and_one}
use Rattle.coverage.proofs.StepLemmas.{set_done, keep_done, set_blank}
use Rattle.coverage.proofs.line.column.Goals as goal
use Rattle.coverage.proofs.line.column.Goals.{then-bits-i-eq1, else-bits-i-eq1}

pub loop-i-preserved : goal.loop-i-preserved
loop-i-preserved c =
    let bit = λ (j : ℕ). bit_at (slice_index c.args.bits.now j) c.args.r in
    record {
      done = elim c.if-bits-i-eq1.branch [
        | then-bits-i-eq1 w ↦
            let set : bit c.loop-i.i ≡ 1 = sym (shr_and_one (slice_index c.args.bits.now c.loop-i.i) c.args.r) ∙ w.if-bits-i-eq1.true in
            rw w.gathered-is (set_done bit c.loop-i.i c.loop-i.gathered c.loop-i-test.true set c.loop-i.invariant.done)
        | else-bits-i-eq1 w ↦
            let small = bit_at-lt (slice_index c.args.bits.now c.loop-i.i) c.args.r in
            let is = shr_and_one (slice_index c.args.bits.now c.loop-i.i) c.args.r in
            let clear : bit c.loop-i.i ≡ 0 = omega (arith, small, is, w.if-bits-i-eq1.false) in
            rw w.gathered-is (keep_done bit c.loop-i.i c.loop-i.gathered clear c.loop-i.invariant.done c.loop-i.invariant.blank)
      ];
      blank = elim c.if-bits-i-eq1.branch [
        | then-bits-i-eq1 w ↦ rw w.gathered-is (set_blank c.loop-i.i c.loop-i.gathered c.loop-i-test.true c.loop-i.invariant.blank)
        | else-bits-i-eq1 w ↦ rw w.gathered-is (λ j h. let less : c.loop-i.i ≤ j = omega arith in c.loop-i.invariant.blank j less)
      ];
    }
