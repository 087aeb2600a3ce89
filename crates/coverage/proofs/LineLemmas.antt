-- The weights of a line's ends at a pixel that it covers.
use Rattle.std.specs.Prelude.{ℕ, zero, suc, ℤ, pos, negsuc, ◌-ℤ◌, ◌≤ℤ◌, ◌<ℤ◌, ◌≡◌, Bool, true, false, ◌&&◌, IsTrue}
use Rattle.std.specs.Int.{int_signum}
use Rattle.std.proofs.Common.{refl, inl, inr, arith}
use Rattle.std.proofs.lemmas.Int.{ints}
use Rattle.gl_records.specs.declared.prim.VertexOut.{VertexOut}
use Rattle.gl_records.specs.Center.{center}
use Rattle.gl_records.specs.LineCoverage.{covers_run, end_weight, is_passed, is_x_major, line_covers, line_weight}
use Rattle.gl_records.specs.Valid.{IsCornerInRange}
use Rattle.gl_records.specs.Weights.{AreWeights}
use Rattle.gl_records.proofs.Lines.{Passed, Passed-from}

signum-above : (z : ℤ) → pos 0 <ℤ z → int_signum z ≡ pos 1
signum-above (pos zero) h = absurd (omega (arith, ints))
signum-above (pos (suc n)) h = grind (arith, ints)
signum-above (negsuc n) h = absurd (omega (arith, ints))

signum-below : (z : ℤ) → z <ℤ pos 0 → int_signum z ≡ negsuc 0
signum-below (pos n) h = absurd (omega (arith, ints))
signum-below (negsuc n) h = refl

are_end_weights : (start end at : ℤ) → negsuc 65535 ≤ℤ start → start ≤ℤ pos 98304 → negsuc 65535 ≤ℤ end → end ≤ℤ pos 98304
    → Passed start end at → AreWeights (end_weight 0 start end at) (end_weight 1 start end at) (end_weight 2 start end at)
are_end_weights start end at p q r s (inl h) =
    rw (signum-above (end -ℤ start) (omega (arith, ints, h.0)))
    (record {
      first_from = omega (arith, ints, h.1, h.2);
      second_from = omega (arith, ints, h.1, h.2);
      third_from = omega (arith, ints);
      sum_above = omega (arith, ints, h.0, h.1, h.2);
      sum_to = omega (arith, ints, h.0, h.1, h.2, p, q, r, s);
    })
are_end_weights start end at p q r s (inr h) =
    rw (signum-below (end -ℤ start) (omega (arith, ints, h.0)))
    (record {
      first_from = omega (arith, ints, h.1, h.2);
      second_from = omega (arith, ints, h.1, h.2);
      third_from = omega (arith, ints);
      sum_above = omega (arith, ints, h.0, h.1, h.2);
      sum_to = omega (arith, ints, h.0, h.1, h.2, p, q, r, s);
    })

first_true : (a b : Bool) → IsTrue (a && b) → IsTrue a
first_true true b h = refl
first_true false b h = cc

-- a pixel that a run covers is passed
pub covers_run-passed : (width : ℕ) (start minor_start end minor_end along across : ℤ)
    → IsTrue (covers_run width start minor_start end minor_end along across) → Passed start end (center along)
unfolding covers_run
covers_run-passed width start minor_start end minor_end along across h =
    Passed-from start end (center along) (first_true (is_passed start end (center along)) _ h)

by_axis : (a b : VertexOut) (width : ℕ) (x y : ℤ) (m : Bool) → is_x_major a b ≡ m → IsCornerInRange a → IsCornerInRange b
    → IsTrue (line_covers a b width x y) → AreWeights (line_weight a b 0 x y) (line_weight a b 1 x y) (line_weight a b 2 x y)
unfolding line_covers line_weight
by_axis a b width x y true e p q h =
    rw e
    (are_end_weights a.x b.x (center x) p.x_from p.x_to q.x_from q.x_to (covers_run-passed width a.x a.y b.x b.y x y (rw e at h)))
by_axis a b width x y false e p q h =
    rw e
    (are_end_weights a.y b.y (center y) p.y_from p.y_to q.y_from q.y_to (covers_run-passed width a.y a.x b.y b.x y x (rw e at h)))

pub are_line_weights : (a b : VertexOut) (width : ℕ) (x y : ℤ) → IsCornerInRange a → IsCornerInRange b
    → IsTrue (line_covers a b width x y) → AreWeights (line_weight a b 0 x y) (line_weight a b 1 x y) (line_weight a b 2 x y)
are_line_weights a b width x y p q h = by_axis a b width x y (is_x_major a b) refl p q h
