-- Sums by the weights alone are linear over a tile, and the sum of the weights is the same all over it.
use Rattle.std.specs.Prelude.{ℕ, ℤ, pos, ◌+ℤ◌, ◌-ℤ◌, ◌*ℤ◌, ◌≡◌, Bool, true, false, if◌then◌else◌, unsigned_abs}
use Rattle.std.specs.Int.{int_signum}
use Rattle.std.proofs.Common.{refl, sym, ◌∙◌, arith}
use Rattle.std.proofs.lemmas.Int.{ints}
use Rattle.fx_arith.specs.Number.{clamp, floor_div}
use Rattle.fx_arith.proofs.Products.{*ℤ_assoc, *ℤ-+ℤ, +ℤ-*ℤ}
use Rattle.plane_equations.specs.declared.plane.Plane.{Plane}
use Rattle.plane_equations.specs.Planes.{IsPlane, plane_at}
use Rattle.gl_records.specs.declared.pixel.TheConstants.{GREATEST_DEPTH}
use Rattle.gl_records.specs.declared.prim.Primitive.{Primitive}
use Rattle.gl_records.specs.declared.prim.PrimKind.{PrimKind}
use Rattle.gl_records.specs.declared.prim.PrimKind.TheVariants.{Point, Line, Triangle}
use Rattle.gl_records.specs.declared.prim.VertexOut.{VertexOut}
use Rattle.gl_records.specs.Center.{center}
use Rattle.gl_records.specs.Coverage.{corner, edge}
use Rattle.gl_records.specs.Depth.{depth}
use Rattle.gl_records.specs.LineCoverage.{end_weight, is_x_major, line_weight}
use Rattle.gl_records.specs.Weights.{weight, weighted_sum}
use Rattle.coverage.proofs.Differences.{var, number, plus, minus, times, same}
use Rattle.coverage.proofs.EdgeLemmas.{edge-sum}
use Rattle.coverage.proofs.WeightLemmas.{weight-Triangle, weight-Line, weight-Point}
use Rattle.interpolation.specs.Depths.{depth_sum, weight_total}
use Rattle.interpolation.proofs.Neighbors.{weight-straight}

term : (w d e a i j : ℤ) → (w +ℤ (i *ℤ d) +ℤ (j *ℤ e)) *ℤ a ≡ (w *ℤ a) +ℤ (i *ℤ (d *ℤ a)) +ℤ (j *ℤ (e *ℤ a))
term w d e a i j = rw (+ℤ-*ℤ (w +ℤ (i *ℤ d)) (j *ℤ e) a, +ℤ-*ℤ w (i *ℤ d) a, *ℤ_assoc i d a, *ℤ_assoc j e a)

together : (i j a b c d e f g h k : ℤ)
    → (a +ℤ (i *ℤ d) +ℤ (j *ℤ g)) +ℤ (b +ℤ (i *ℤ e) +ℤ (j *ℤ h)) +ℤ (c +ℤ (i *ℤ f) +ℤ (j *ℤ k))
    ≡ (a +ℤ b +ℤ c) +ℤ (i *ℤ (d +ℤ e +ℤ f)) +ℤ (j *ℤ (g +ℤ h +ℤ k))
together i j a b c d e f g h k =
    omega (arith, ints, *ℤ-+ℤ i (d +ℤ e) f, *ℤ-+ℤ i d e, *ℤ-+ℤ j (g +ℤ h) k, *ℤ-+ℤ j g h)

-- how much more a corner counts at pixel (x, y) than at the surface's first
change : Primitive → ℕ → ℤ → ℤ → ℤ
change p k x y = weight p k x y -ℤ weight p k (pos 0) (pos 0)

-- and how much more the sum of a value is there
growth : Primitive → (VertexOut → ℤ) → ℤ → ℤ → ℤ
growth p value x y =
    (change p 0 x y *ℤ value (corner p 0)) +ℤ (change p 1 x y *ℤ value (corner p 1)) +ℤ (change p 2 x y *ℤ value (corner p 2))

sum-straight : (p : Primitive) (value : VertexOut → ℤ) (x y i j : ℤ)
    → weighted_sum p value (x +ℤ i) (y +ℤ j)
    ≡ weighted_sum p value x y +ℤ (i *ℤ growth p value (pos 1) (pos 0)) +ℤ (j *ℤ growth p value (pos 0) (pos 1))
unfolding weighted_sum growth change
sum-straight p value x y i j =
    let a = value (corner p 0) in
    let b = value (corner p 1) in
    let c = value (corner p 2) in
    rw (
      weight-straight p 0 x y i j,
      weight-straight p 1 x y i j,
      weight-straight p 2 x y i j,
      term (weight p 0 x y) (change p 0 (pos 1) (pos 0)) (change p 0 (pos 0) (pos 1)) a i j,
      term (weight p 1 x y) (change p 1 (pos 1) (pos 0)) (change p 1 (pos 0) (pos 1)) b i j,
      term (weight p 2 x y) (change p 2 (pos 1) (pos 0)) (change p 2 (pos 0) (pos 1)) c i j,
    )
    (together i j (weight p 0 x y *ℤ a) (weight p 1 x y *ℤ b) (weight p 2 x y *ℤ c)
    (change p 0 (pos 1) (pos 0) *ℤ a) (change p 1 (pos 1) (pos 0) *ℤ b) (change p 2 (pos 1) (pos 0) *ℤ c)
    (change p 0 (pos 0) (pos 1) *ℤ a) (change p 1 (pos 0) (pos 1) *ℤ b) (change p 2 (pos 0) (pos 1) *ℤ c))

stay : (y : ℤ) → y +ℤ pos 0 ≡ y
stay y = omega (arith, ints)

one_right : (a b d e : ℤ) → a ≡ b +ℤ (pos 1 *ℤ d) +ℤ (pos 0 *ℤ e) → a -ℤ b ≡ d
one_right a b d e is = omega (arith, ints)

one_above : (a b d e : ℤ) → a ≡ b +ℤ (pos 0 *ℤ d) +ℤ (pos 1 *ℤ e) → a -ℤ b ≡ e
one_above a b d e is = omega (arith, ints)

-- the plane through the sums at a pixel, the next to the right and the next above
pub sum-plane : (p : Primitive) (value : VertexOut → ℤ) (x y here right above : ℤ) (plane : Plane)
    → here ≡ weighted_sum p value x y → right ≡ weighted_sum p value (x +ℤ pos 1) y → above ≡ weighted_sum p value x (y +ℤ pos 1)
    → IsPlane here (right -ℤ here) (above -ℤ here) plane
    → (i j : ℕ) → plane_at plane i j ≡ weighted_sum p value (x +ℤ pos i) (y +ℤ pos j)
sum-plane p value x y here right above plane here_is right_is above_is is i j =
    let r : right -ℤ here ≡ growth p value (pos 1) (pos 0) =
    rw (right_is, here_is) (one_right _ _ _ (growth p value (pos 0) (pos 1)) (rw (stay y) at (sum-straight p value x y (pos 1) (pos 0)))) in
    let u : above -ℤ here ≡ growth p value (pos 0) (pos 1) =
    rw (above_is, here_is) (one_above _ _ (growth p value (pos 1) (pos 0)) _ (rw (stay x) at (sum-straight p value x y (pos 0) (pos 1)))) in
    rw (is.origin, is.right, is.up, r, u, here_is, sum-straight p value x y (pos i) (pos j))

-- the sum of the weights, by kind
whole_of : PrimKind → Primitive → ℤ
whole_of Triangle p = edge (corner p 0) (corner p 1) (corner p 2).x (corner p 2).y
whole_of Line p =
    if is_x_major (corner p 0) (corner p 1) then int_signum ((corner p 1).x -ℤ (corner p 0).x) *ℤ ((corner p 1).x -ℤ (corner p 0).x)
    else int_signum ((corner p 1).y -ℤ (corner p 0).y) *ℤ ((corner p 1).y -ℤ (corner p 0).y)
whole_of Point p = pos 1

ends : (start end at : ℤ)
    → end_weight 0 start end at +ℤ end_weight 1 start end at +ℤ end_weight 2 start end at ≡ int_signum (end -ℤ start) *ℤ (end -ℤ start)
ends start end at =
    let s = var (int_signum (end -ℤ start)) in let e = var end in let b = var start in let p = var at in
    same
    (plus (plus (times s (minus e p)) (times s (minus p b))) (number 0))
    (times s (minus e b))
    (omega arith)

line_whole : (a b : VertexOut) (x y : ℤ) (m : Bool) → is_x_major a b ≡ m
    → line_weight a b 0 x y +ℤ line_weight a b 1 x y +ℤ line_weight a b 2 x y
    ≡ (if is_x_major a b then int_signum (b.x -ℤ a.x) *ℤ (b.x -ℤ a.x) else int_signum (b.y -ℤ a.y) *ℤ (b.y -ℤ a.y))
unfolding line_weight
line_whole a b x y true e = rw e (ends a.x b.x (center x))
line_whole a b x y false e = rw e (ends a.y b.y (center y))

by_kind : (kind : PrimKind) (p : Primitive) (x y : ℤ) → p.kind ≡ kind → weight p 0 x y +ℤ weight p 1 x y +ℤ weight p 2 x y ≡ whole_of kind p
unfolding whole_of
by_kind Triangle p x y e =
    rw (weight-Triangle p 0 x y e, weight-Triangle p 1 x y e, weight-Triangle p 2 x y e)
    (edge-sum (corner p 0) (corner p 1) (corner p 2) (center x) (center y))
by_kind Line p x y e =
    rw (weight-Line p 0 x y e, weight-Line p 1 x y e, weight-Line p 2 x y e)
    (line_whole (corner p 0) (corner p 1) x y (is_x_major (corner p 0) (corner p 1)) refl)
by_kind Point p x y e = rw (weight-Point p 0 x y e, weight-Point p 1 x y e, weight-Point p 2 x y e) refl

ones : (u v w : ℤ) → (u *ℤ pos 1) +ℤ (v *ℤ pos 1) +ℤ (w *ℤ pos 1) ≡ u +ℤ v +ℤ w
ones u v w = omega (arith, ints)

pub total-is : (p : Primitive) (x y : ℤ) → weight_total p x y ≡ weight p 0 x y +ℤ weight p 1 x y +ℤ weight p 2 x y
unfolding weighted_sum
total-is p x y = ones (weight p 0 x y) (weight p 1 x y) (weight p 2 x y)

-- the sum of the weights is the same at all pixels
pub total-same : (p : Primitive) (x y i j : ℤ) → weight_total p x y ≡ weight_total p i j
total-same p x y i j = total-is p x y ∙ by_kind p.kind p x y refl ∙ sym (by_kind p.kind p i j refl) ∙ sym (total-is p i j)

-- the depth from its sums
pub depth-by : (p : Primitive) (x y q d : ℤ) (z : ℕ) → q ≡ floor_div (depth_sum p x y) (unsigned_abs d) → d ≡ weight_total p x y
    → z ≡ unsigned_abs (clamp (pos 0) (pos GREATEST_DEPTH) q) → z ≡ depth p x y
unfolding depth
depth-by p x y q d z quotient divisor is = rw (is, quotient, divisor)

-- the sum of the depths from its parts
pub depth_sum-from : (p : Primitive) (x y s a b c : ℤ) → s ≡ a +ℤ b +ℤ c
    → a ≡ weight p 0 x y *ℤ (corner p 0).z → b ≡ weight p 1 x y *ℤ (corner p 1).z → c ≡ weight p 2 x y *ℤ (corner p 2).z
    → s ≡ depth_sum p x y
unfolding weighted_sum
depth_sum-from p x y s a b c sum first second third = rw (sum, first, second, third)
