-- Sums over the corners with and without the factor that all q have.
use Rattle.std.specs.Prelude.{ℕ, ℤ, pos, ◌*◌, ◌<◌, ◌≤◌, ◌<ℤ◌, ◌≤ℤ◌, ◌+ℤ◌, ◌*ℤ◌, ◌==◌, ◌&&◌, ◌≡◌, Bool, true, false}
use Rattle.std.proofs.Common.{arith, refl, rules}
use Rattle.std.proofs.lemmas.Int.{ints}
use Rattle.std.proofs.lemmas.Nat.{mul-le}
use Rattle.coverage.proofs.Differences.{var, number, plus, times, same}
use Rattle.fx_arith.proofs.Floors.{floor_div-multiple_within, floor_div-next_multiple_above, floor_div-unique}
use Rattle.fx_arith.proofs.Products.{*ℤ-≤, *ℤ-<}
use Rattle.fx_arith.specs.Number.{floor_div}
use Rattle.gl_records.specs.declared.prim.Primitive.{Primitive}
use Rattle.gl_records.specs.declared.prim.VertexOut.{VertexOut}
use Rattle.gl_records.specs.Coverage.{corner}
use Rattle.gl_records.specs.Valid.{IsInRange}
use Rattle.gl_records.specs.Weights.{weight, weighted_sum}
use Rattle.interpolation.specs.Factors.{common_q, has_one_q, scaled_sum}

sum_of_one : (u v w q a b c : ℤ)
    → (u *ℤ (q *ℤ a)) +ℤ (v *ℤ (q *ℤ b)) +ℤ (w *ℤ (q *ℤ c))
    ≡ q *ℤ ((u *ℤ (pos 1 *ℤ a)) +ℤ (v *ℤ (pos 1 *ℤ b)) +ℤ (w *ℤ (pos 1 *ℤ c)))
sum_of_one u v w q a b c =
    let i = var u in let j = var v in let k = var w in let f = var q in let l = var a in let m = var b in let n = var c in
    same
    (plus (plus (times i (times f l)) (times j (times f m))) (times k (times f n)))
    (times f (plus (plus (times i (times (number 1) l)) (times j (times (number 1) m))) (times k (times (number 1) n))))
    (omega arith)

sum_as_is : (u v w a b c : ℤ)
    → (u *ℤ a) +ℤ (v *ℤ b) +ℤ (w *ℤ c) ≡ pos 1 *ℤ ((u *ℤ a) +ℤ (v *ℤ b) +ℤ (w *ℤ c))
sum_as_is u v w a b c = omega (arith, ints)

same-second : (a b c : ℕ) → (a == b && a == c) ≡ true → b ≡ a
same-second a b c h = search rules

same-third : (a b c : ℕ) → (a == b && a == c) ≡ true → c ≡ a
same-third a b c h = search rules

by_cases : (p : Primitive) (value : VertexOut → ℤ) (x y : ℤ) (one : Bool) → has_one_q p ≡ one
    → weighted_sum p (λ v. pos v.q *ℤ value v) x y ≡ pos (common_q p) *ℤ scaled_sum p value x y
unfolding scaled_sum weighted_sum
by_cases p value x y true e =
    rw (e, same-second (corner p 0).q (corner p 1).q (corner p 2).q e, same-third (corner p 0).q (corner p 1).q (corner p 2).q e)
    (sum_of_one (weight p 0 x y) (weight p 1 x y) (weight p 2 x y) (pos (corner p 0).q) (value (corner p 0)) (value (corner p 1)) (value (corner p 2)))
by_cases p value x y false e =
    rw e
    (sum_as_is (weight p 0 x y) (weight p 1 x y) (weight p 2 x y)
    (pos (corner p 0).q *ℤ value (corner p 0)) (pos (corner p 1).q *ℤ value (corner p 1)) (pos (corner p 2).q *ℤ value (corner p 2)))

-- a sum by weights and q
pub weighted_sum-scaled : (p : Primitive) (value : VertexOut → ℤ) (x y : ℤ)
    → weighted_sum p (λ v. pos v.q *ℤ value v) x y ≡ pos (common_q p) *ℤ scaled_sum p value x y
weighted_sum-scaled p value x y = by_cases p value x y (has_one_q p) refl

common-by : (p : Primitive) (one : Bool) → has_one_q p ≡ one → 1 ≤ (corner p 0).q → 1 ≤ common_q p
common-by p true e h = rw e h
common-by p false e h = rw e (omega arith)

pub common_q-positive : (p : Primitive) → IsInRange p → 1 ≤ common_q p
common_q-positive p range = common-by p (has_one_q p) refl range.first.q_from

swapped : (g : ℤ) (q d : ℕ) → g *ℤ pos (q * d) ≡ pos q *ℤ (g *ℤ pos d)
swapped g q d =
    let a = var g in let b = number q in let c = number d in
    same (times a (number (q * d))) (times b (times a c)) (omega arith)

pub mul-positive : (q d : ℕ) → 1 ≤ q → 0 < d → 0 < q * d
mul-positive q d some positive = omega (arith, mul-le 1 1 q d some positive)

-- a quotient without a common factor
pub floor_div-scaled : (q : ℕ) (z : ℤ) (d : ℕ) → 1 ≤ q → 0 < d → floor_div (pos q *ℤ z) (q * d) ≡ floor_div z d
floor_div-scaled q z d some positive =
    let g = floor_div z d in
    let low : (pos q *ℤ (g *ℤ pos d)) ≤ℤ (pos q *ℤ z) = *ℤ-≤ (pos q) _ _ (omega (arith, ints)) (floor_div-multiple_within z d positive) in
    let high : (pos q *ℤ z) <ℤ (pos q *ℤ ((g +ℤ pos 1) *ℤ pos d)) = *ℤ-< (pos q) _ _ (omega (arith, ints)) (floor_div-next_multiple_above z d positive) in
    floor_div-unique (pos q *ℤ z) g (q * d) (mul-positive q d some positive) (rw (swapped g q d) low) (rw (swapped (g +ℤ pos 1) q d) high)
