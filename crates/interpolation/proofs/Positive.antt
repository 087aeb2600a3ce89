-- The shares at a pixel that the primitive covers.
use Rattle.std.specs.Prelude.{ℕ, ℤ, pos, ◌*ℤ◌, ◌≤ℤ◌, ◌≤◌, IsTrue}
use Rattle.std.proofs.Common.{arith}
use Rattle.std.proofs.lemmas.Int.{ints}
use Rattle.fx_arith.proofs.Products.{*ℤ-≤}
use Rattle.gl_records.specs.declared.prim.Primitive.{Primitive}
use Rattle.gl_records.specs.Coverage.{corner, covers}
use Rattle.gl_records.specs.Valid.{IsInRange}
use Rattle.gl_records.specs.Weights.{AreWeights, weight}
use Rattle.coverage.proofs.WeightLemmas.{AreWeights-covered}
use Rattle.interpolation.specs.declared.shares.Shares.{Shares}
use Rattle.interpolation.specs.Shares.{ArePositive, AreShares}

-- a weight is at most its share
below-share : (w : ℤ) (q : ℕ) → pos 0 ≤ℤ w → 1 ≤ q → w ≤ℤ (w *ℤ pos q)
below-share w q h some =
    let most = *ℤ-≤ w (pos 1) (pos q) h (omega (arith, ints)) in
    omega (arith, ints, most)

positive : (shares : Shares) (u v w : ℤ) → u ≤ℤ shares.first → v ≤ℤ shares.second → w ≤ℤ shares.third → AreWeights u v w → ArePositive shares
positive shares u v w a b c weights = record {
  first = omega (arith, ints, a, weights.first_from);
  second = omega (arith, ints, b, weights.second_from);
  third = omega (arith, ints, c, weights.third_from);
  some = omega (arith, ints, a, b, c, weights.sum_above);
}

pub ArePositive-covered : (shares : Shares) (p : Primitive) (x y : ℤ) → IsInRange p → IsTrue (covers p x y) → AreShares shares p x y → ArePositive shares
ArePositive-covered shares p x y range covered h =
    let weights = AreWeights-covered p x y range covered in
    positive shares (weight p 0 x y) (weight p 1 x y) (weight p 2 x y)
    (rw h.first (below-share (weight p 0 x y) (corner p 0).q weights.first_from range.first.q_from))
    (rw h.second (below-share (weight p 1 x y) (corner p 1).q weights.second_from range.second.q_from))
    (rw h.third (below-share (weight p 2 x y) (corner p 2).q weights.third_from range.third.q_from))
    weights
