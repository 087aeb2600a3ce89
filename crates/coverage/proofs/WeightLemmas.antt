-- The weights of a primitive's corners at a pixel.
use Rattle.std.specs.Prelude.{ℕ, ℤ, pos, negsuc, ◌*◌, ◌+ℤ◌, ◌-ℤ◌, ◌*ℤ◌, ◌≤ℤ◌, ◌≡◌, ◌^◌, ◌≤◌, [], ◌∷◌, IsTrue, unsigned_abs}
use Rattle.std.proofs.Common.{refl, arith, FitsSigned, w64}
use Rattle.std.proofs.lemmas.Int.{ints}
use Rattle.gl_records.specs.declared.prim.Primitive.{Primitive}
use Rattle.gl_records.specs.declared.prim.PrimKind.TheVariants.{Point, Line, Triangle}
use Rattle.gl_records.specs.declared.prim.VertexOut.{VertexOut}
use Rattle.gl_records.specs.Center.{center}
use Rattle.gl_records.specs.Coverage.{corner, covers, edge, edge_start, edge_end, doubled_area}
use Rattle.gl_records.specs.LineCoverage.{line_weight}
use Rattle.gl_records.specs.declared.prim.PrimKind.{PrimKind}
use Rattle.gl_records.specs.Valid.{IsCornerInRange, IsInRange}
use Rattle.gl_records.specs.Weights.{AreWeights, only_first, weight, weights}
use Rattle.coverage.proofs.CoverLemmas.{IsCovered-from, IsInside, IsInside-from, sum_positive}
use Rattle.coverage.proofs.EdgeLemmas.{edge-sum}
use Rattle.coverage.proofs.LineLemmas.{are_line_weights}
use Rattle.coverage.proofs.Whole.{unsigned_abs-product}

pub weight-Triangle : (p : Primitive) (k : ℕ) (x y : ℤ) → p.kind ≡ Triangle
    → weight p k x y ≡ edge (edge_start p k) (edge_end p k) (center x) (center y)
unfolding weight
weight-Triangle p k x y e = rw e

pub weight-Point : (p : Primitive) (k : ℕ) (x y : ℤ) → p.kind ≡ Point → weight p k x y ≡ only_first k
unfolding weight
weight-Point p k x y e = rw e

pub weight-Line : (p : Primitive) (k : ℕ) (x y : ℤ) → p.kind ≡ Line → weight p k x y ≡ line_weight (corner p 0) (corner p 1) k x y
unfolding weight
weight-Line p k x y e = rw e

apart : (a b : ℤ) → negsuc 65535 ≤ℤ a → a ≤ℤ pos 98304 → negsuc 65535 ≤ℤ b → b ≤ℤ pos 98304 → unsigned_abs (b -ℤ a) ≤ 163840
apart a b p q r s = omega (arith, ints)

below_sum : (a b : ℤ) → unsigned_abs a ≤ 163840 * 163840 → unsigned_abs b ≤ 163840 * 163840 → (a -ℤ b) ≤ℤ pos (2 ^ 36)
below_sum a b p q = omega (arith, ints)

-- twice a triangle's area
edge_to : (a b c : VertexOut) → IsCornerInRange a → IsCornerInRange b → IsCornerInRange c → edge a b c.x c.y ≤ℤ pos (2 ^ 36)
unfolding doubled_area
edge_to a b c p q r =
    let one = unsigned_abs-product (b.x -ℤ a.x) (c.y -ℤ a.y) 163840 163840
    (apart a.x b.x p.x_from p.x_to q.x_from q.x_to) (apart a.y c.y p.y_from p.y_to r.y_from r.y_to) in
    let two = unsigned_abs-product (b.y -ℤ a.y) (c.x -ℤ a.x) 163840 163840
    (apart a.y b.y p.y_from p.y_to q.y_from q.y_to) (apart a.x c.x p.x_from p.x_to r.x_from r.x_to) in
    below_sum ((b.x -ℤ a.x) *ℤ (c.y -ℤ a.y)) ((b.y -ℤ a.y) *ℤ (c.x -ℤ a.x)) one two

round : (a b c : ℤ) → (c -ℤ b) +ℤ (a -ℤ c) +ℤ (b -ℤ a) ≡ pos 0
round a b c = omega (arith, ints)

are_weights : (a b c : VertexOut) (x y u v w : ℤ) → IsCornerInRange a → IsCornerInRange b → IsCornerInRange c
    → IsInside u (c.x -ℤ b.x) (c.y -ℤ b.y) → IsInside v (a.x -ℤ c.x) (a.y -ℤ c.y) → IsInside w (b.x -ℤ a.x) (b.y -ℤ a.y)
    → u +ℤ v +ℤ w ≡ edge a b c.x c.y → AreWeights u v w
are_weights a b c x y u v w p q r first second third area = record {
  first_from = first.at_least;
  second_from = second.at_least;
  third_from = third.at_least;
  sum_above = sum_positive u v w (c.x -ℤ b.x) (a.x -ℤ c.x) (b.x -ℤ a.x) (c.y -ℤ b.y) (a.y -ℤ c.y) (b.y -ℤ a.y)
      first second third (round a.x b.x c.x) (round a.y b.y c.y);
  sum_to = rw area (edge_to a b c p q r);
}

AreWeights-triangle : (p : Primitive) (x y : ℤ) → IsInRange p → p.kind ≡ Triangle → IsTrue (covers p x y)
    → AreWeights (weight p 0 x y) (weight p 1 x y) (weight p 2 x y)
AreWeights-triangle p x y range kind h =
    let is = IsCovered-from p x y kind h in
    rw (weight-Triangle p 0 x y kind, weight-Triangle p 1 x y kind, weight-Triangle p 2 x y kind)
    (are_weights (corner p 0) (corner p 1) (corner p 2) x y _ _ _ range.first range.second range.third
    (IsInside-from (corner p 1) (corner p 2) x y is.first)
    (IsInside-from (corner p 2) (corner p 0) x y is.second)
    (IsInside-from (corner p 0) (corner p 1) x y is.third)
    (edge-sum (corner p 0) (corner p 1) (corner p 2) (center x) (center y)))

AreWeights-line : (p : Primitive) (x y : ℤ) → IsInRange p → p.kind ≡ Line → IsTrue (covers p x y)
    → AreWeights (weight p 0 x y) (weight p 1 x y) (weight p 2 x y)
unfolding covers
AreWeights-line p x y range kind h =
    rw (weight-Line p 0 x y kind, weight-Line p 1 x y kind, weight-Line p 2 x y kind)
    (are_line_weights (corner p 0) (corner p 1) p.width x y range.first range.second (rw kind at h))

AreWeights-point : (p : Primitive) (x y : ℤ) → p.kind ≡ Point → AreWeights (weight p 0 x y) (weight p 1 x y) (weight p 2 x y)
AreWeights-point p x y kind =
    rw (weight-Point p 0 x y kind, weight-Point p 1 x y kind, weight-Point p 2 x y kind)
    (record {
      first_from = omega (arith, ints);
      second_from = omega (arith, ints);
      third_from = omega (arith, ints);
      sum_above = omega (arith, ints);
      sum_to = omega (arith, ints);
    })

AreWeights-kind : (k : PrimKind) (p : Primitive) (x y : ℤ) → IsInRange p → p.kind ≡ k → IsTrue (covers p x y)
    → AreWeights (weight p 0 x y) (weight p 1 x y) (weight p 2 x y)
AreWeights-kind Triangle p x y range kind h = AreWeights-triangle p x y range kind h
AreWeights-kind Line p x y range kind h = AreWeights-line p x y range kind h
AreWeights-kind Point p x y range kind h = AreWeights-point p x y kind

pub AreWeights-covered : (p : Primitive) (x y : ℤ) → IsInRange p → IsTrue (covers p x y)
    → AreWeights (weight p 0 x y) (weight p 1 x y) (weight p 2 x y)
AreWeights-covered p x y range h = AreWeights-kind p.kind p x y range refl h

pub weights-Triangle : (p : Primitive) (x y u v w : ℤ) → p.kind ≡ Triangle
    → u ≡ edge (corner p 1) (corner p 2) (center x) (center y)
    → v ≡ edge (corner p 2) (corner p 0) (center x) (center y)
    → w ≡ edge (corner p 0) (corner p 1) (center x) (center y) → u ∷ v ∷ w ∷ [] ≡ weights p x y
weights-Triangle p x y u v w e first second third =
    rw (weight-Triangle p 0 x y e, weight-Triangle p 1 x y e, weight-Triangle p 2 x y e, first, second, third)

pub weights-Line : (p : Primitive) (x y : ℤ) → p.kind ≡ Line
    → line_weight (corner p 0) (corner p 1) 0 x y ∷ line_weight (corner p 0) (corner p 1) 1 x y ∷ line_weight (corner p 0) (corner p 1) 2 x y ∷ []
    ≡ weights p x y
weights-Line p x y e = rw (weight-Line p 0 x y e, weight-Line p 1 x y e, weight-Line p 2 x y e)

pub weights-Point : (p : Primitive) (x y : ℤ) → p.kind ≡ Point → pos 1 ∷ pos 0 ∷ pos 0 ∷ [] ≡ weights p x y
weights-Point p x y e = rw (weight-Point p 0 x y e, weight-Point p 1 x y e, weight-Point p 2 x y e)

-- no single weight is above the sum's bound
pub weight-to : (u v w : ℤ) → AreWeights u v w → (u ≤ℤ pos (2 ^ 36)) × (v ≤ℤ pos (2 ^ 36)) × (w ≤ℤ pos (2 ^ 36))
weight-to u v w h = omega (arith, ints)

-- a value that lies within 2 ^ 26 times a weight
pub record IsShare (weight value : ℤ) : Type 0 where
  pub from : (pos 0 -ℤ (pos (2 ^ 26) *ℤ weight)) ≤ℤ value
  pub to : value ≤ℤ (pos (2 ^ 26) *ℤ weight)

pub two_fit : (u v w r s : ℤ) → AreWeights u v w → IsShare u r → IsShare v s → FitsSigned w64 (r +ℤ s)
two_fit u v w r s h p q = omega (arith, ints)

pub three_fit : (u v w r s t : ℤ) → AreWeights u v w → IsShare u r → IsShare v s → IsShare w t → FitsSigned w64 (r +ℤ s +ℤ t)
three_fit u v w r s t h p q o = omega (arith, ints)

pub weight-fits : (u v w : ℤ) → AreWeights u v w → FitsSigned w64 u × FitsSigned w64 v × FitsSigned w64 w
weight-fits u v w h = omega (arith, ints)
