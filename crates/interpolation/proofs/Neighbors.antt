-- Weights run straight: how far they are from those at another pixel goes by how far this pixel is.
use Rattle.std.specs.Prelude.{ℕ, zero, suc, ℤ, pos, ◌+ℤ◌, ◌-ℤ◌, ◌*ℤ◌, ◌≡◌, Bool, true, false}
use Rattle.std.specs.Int.{int_signum}
use Rattle.std.proofs.Common.{refl, arith}
use Rattle.std.proofs.lemmas.Int.{ints}
use Rattle.fx_arith.proofs.Products.{+ℤ-*ℤ, -ℤ-*ℤ}
use Rattle.gl_records.specs.declared.prim.Primitive.{Primitive}
use Rattle.gl_records.specs.declared.prim.PrimKind.{PrimKind}
use Rattle.gl_records.specs.declared.prim.PrimKind.TheVariants.{Point, Line, Triangle}
use Rattle.gl_records.specs.declared.prim.VertexOut.{VertexOut}
use Rattle.gl_records.specs.Center.{center}
use Rattle.gl_records.specs.Coverage.{corner, doubled_area, edge, edge_start, edge_end}
use Rattle.gl_records.specs.LineCoverage.{end_weight, is_x_major, line_weight}
use Rattle.gl_records.specs.Weights.{weight}
use Rattle.coverage.proofs.Differences.{var, number, plus, minus, times, same}
use Rattle.coverage.proofs.WeightLemmas.{weight-Triangle, weight-Line, weight-Point}
use Rattle.interpolation.specs.declared.shares.Shares.{Shares}
use Rattle.interpolation.specs.Shares.{AreShares}

edge-next : (a b : VertexOut) (x y dx dy : ℤ)
    → edge a b (center (x +ℤ dx)) (center (y +ℤ dy))
    ≡ edge a b (center x) (center y) +ℤ (edge a b (center dx) (center dy) -ℤ edge a b (center (pos 0)) (center (pos 0)))
unfolding doubled_area
edge-next a b x y dx dy =
    let ax = var a.x in let ay = var a.y in let bx = var b.x in let by = var b.y in
    let px = var x in let py = var y in let qx = var dx in let qy = var dy in
    let eight = number 8 in let factor = number 16 in let origin = plus (times factor (number 0)) eight in
    same
    (minus (times (minus bx ax) (minus (plus (times factor (plus py qy)) eight) ay)) (times (minus by ay) (minus (plus (times factor (plus px qx)) eight) ax)))
    (plus
    (minus (times (minus bx ax) (minus (plus (times factor py) eight) ay)) (times (minus by ay) (minus (plus (times factor px) eight) ax)))
    (minus
    (minus (times (minus bx ax) (minus (plus (times factor qy) eight) ay)) (times (minus by ay) (minus (plus (times factor qx) eight) ax)))
    (minus (times (minus bx ax) (minus origin ay)) (times (minus by ay) (minus origin ax)))))
    (omega arith)

end_weight-next : (k : ℕ) (start end at d : ℤ)
    → end_weight k start end (center (at +ℤ d))
    ≡ end_weight k start end (center at) +ℤ (end_weight k start end (center d) -ℤ end_weight k start end (center (pos 0)))
end_weight-next zero start end at d =
    let s = var (int_signum (end -ℤ start)) in let e = var end in let p = var at in let q = var d in
    let eight = number 8 in let factor = number 16 in
    same
    (times s (minus e (plus (times factor (plus p q)) eight)))
    (plus (times s (minus e (plus (times factor p) eight)))
    (minus (times s (minus e (plus (times factor q) eight))) (times s (minus e (plus (times factor (number 0)) eight)))))
    (omega arith)
end_weight-next (suc zero) start end at d =
    let s = var (int_signum (end -ℤ start)) in let e = var start in let p = var at in let q = var d in
    let eight = number 8 in let factor = number 16 in
    same
    (times s (minus (plus (times factor (plus p q)) eight) e))
    (plus (times s (minus (plus (times factor p) eight) e))
    (minus (times s (minus (plus (times factor q) eight) e)) (times s (minus (plus (times factor (number 0)) eight) e))))
    (omega arith)
end_weight-next (suc (suc k)) start end at d = omega (arith, ints)

by_axis : (a b : VertexOut) (k : ℕ) (x y dx dy : ℤ) (m : Bool) → is_x_major a b ≡ m
    → line_weight a b k (x +ℤ dx) (y +ℤ dy) ≡ line_weight a b k x y +ℤ (line_weight a b k dx dy -ℤ line_weight a b k (pos 0) (pos 0))
unfolding line_weight
by_axis a b k x y dx dy true e = rw e (end_weight-next k a.x b.x x dx)
by_axis a b k x y dx dy false e = rw e (end_weight-next k a.y b.y y dy)

constant : (a : ℤ) → a ≡ a +ℤ (a -ℤ a)
constant a = omega (arith, ints)

by_kind : (kind : PrimKind) (p : Primitive) (k : ℕ) (x y dx dy : ℤ) → p.kind ≡ kind
    → weight p k (x +ℤ dx) (y +ℤ dy) ≡ weight p k x y +ℤ (weight p k dx dy -ℤ weight p k (pos 0) (pos 0))
by_kind Triangle p k x y dx dy e =
    rw (weight-Triangle p k (x +ℤ dx) (y +ℤ dy) e, weight-Triangle p k x y e, weight-Triangle p k dx dy e, weight-Triangle p k (pos 0) (pos 0) e)
    (edge-next (edge_start p k) (edge_end p k) x y dx dy)
by_kind Line p k x y dx dy e =
    rw (weight-Line p k (x +ℤ dx) (y +ℤ dy) e, weight-Line p k x y e, weight-Line p k dx dy e, weight-Line p k (pos 0) (pos 0) e)
    (by_axis (corner p 0) (corner p 1) k x y dx dy (is_x_major (corner p 0) (corner p 1)) refl)
by_kind Point p k x y dx dy e =
    rw (weight-Point p k (x +ℤ dx) (y +ℤ dy) e, weight-Point p k x y e, weight-Point p k dx dy e, weight-Point p k (pos 0) (pos 0) e)
    (constant _)

-- the weight at a pixel (dx, dy) further
pub weight-next : (p : Primitive) (k : ℕ) (x y dx dy : ℤ)
    → weight p k (x +ℤ dx) (y +ℤ dy) ≡ weight p k x y +ℤ (weight p k dx dy -ℤ weight p k (pos 0) (pos 0))
weight-next p k x y dx dy = by_kind p.kind p k x y dx dy refl

factored : (u v w q : ℤ) → (u *ℤ q) +ℤ ((v *ℤ q) -ℤ (w *ℤ q)) ≡ (u +ℤ (v -ℤ w)) *ℤ q
factored u v w q = omega (arith, ints, +ℤ-*ℤ u (v -ℤ w) q, -ℤ-*ℤ v w q)

-- the shares at a pixel (dx, dy) further
pub AreShares-next : (p : Primitive) (x y dx dy : ℤ) (here origin next new : Shares)
    → AreShares here p x y → AreShares origin p (pos 0) (pos 0) → AreShares next p dx dy
    → new.first ≡ here.first +ℤ (next.first -ℤ origin.first)
    → new.second ≡ here.second +ℤ (next.second -ℤ origin.second)
    → new.third ≡ here.third +ℤ (next.third -ℤ origin.third)
    → AreShares new p (x +ℤ dx) (y +ℤ dy)
AreShares-next p x y dx dy here origin next new h o n first second third = record {
  first = rw (first, h.first, o.first, n.first, weight-next p 0 x y dx dy)
      (factored (weight p 0 x y) (weight p 0 dx dy) (weight p 0 (pos 0) (pos 0)) (pos (corner p 0).q));
  second = rw (second, h.second, o.second, n.second, weight-next p 1 x y dx dy)
      (factored (weight p 1 x y) (weight p 1 dx dy) (weight p 1 (pos 0) (pos 0)) (pos (corner p 1).q));
  third = rw (third, h.third, o.third, n.third, weight-next p 2 x y dx dy)
      (factored (weight p 2 x y) (weight p 2 dx dy) (weight p 2 (pos 0) (pos 0)) (pos (corner p 2).q));
}

stay : (y : ℤ) → y +ℤ pos 0 ≡ y
stay y = omega (arith, ints)

pub AreShares-right : (p : Primitive) (x y : ℤ) (shares : Shares) → AreShares shares p (x +ℤ pos 1) (y +ℤ pos 0) → AreShares shares p (x +ℤ pos 1) y
AreShares-right p x y shares h = rw (← stay y) h

pub AreShares-above : (p : Primitive) (x y : ℤ) (shares : Shares) → AreShares shares p (x +ℤ pos 0) (y +ℤ pos 1) → AreShares shares p x (y +ℤ pos 1)
AreShares-above p x y shares h = rw (← stay x) h

edge-straight : (a b : VertexOut) (x y i j : ℤ)
    → edge a b (center (x +ℤ i)) (center (y +ℤ j))
    ≡ edge a b (center x) (center y)
    +ℤ (i *ℤ (edge a b (center (pos 1)) (center (pos 0)) -ℤ edge a b (center (pos 0)) (center (pos 0))))
    +ℤ (j *ℤ (edge a b (center (pos 0)) (center (pos 1)) -ℤ edge a b (center (pos 0)) (center (pos 0))))
unfolding doubled_area
edge-straight a b x y i j =
    let ax = var a.x in let ay = var a.y in let bx = var b.x in let by = var b.y in
    let px = var x in let py = var y in let qx = var i in let qy = var j in
    let eight = number 8 in let factor = number 16 in let first = plus (times factor (number 0)) eight in let next = plus (times factor (number 1)) eight in
    let at_first = minus (times (minus bx ax) (minus first ay)) (times (minus by ay) (minus first ax)) in
    let at_right = minus (times (minus bx ax) (minus first ay)) (times (minus by ay) (minus next ax)) in
    let at_above = minus (times (minus bx ax) (minus next ay)) (times (minus by ay) (minus first ax)) in
    same
    (minus (times (minus bx ax) (minus (plus (times factor (plus py qy)) eight) ay)) (times (minus by ay) (minus (plus (times factor (plus px qx)) eight) ax)))
    (plus (plus
    (minus (times (minus bx ax) (minus (plus (times factor py) eight) ay)) (times (minus by ay) (minus (plus (times factor px) eight) ax)))
    (times qx (minus at_right at_first)))
    (times qy (minus at_above at_first)))
    (omega arith)

end_weight-straight : (k : ℕ) (start end at d : ℤ)
    → end_weight k start end (center (at +ℤ d))
    ≡ end_weight k start end (center at) +ℤ (d *ℤ (end_weight k start end (center (pos 1)) -ℤ end_weight k start end (center (pos 0))))
end_weight-straight zero start end at d =
    let s = var (int_signum (end -ℤ start)) in let e = var end in let p = var at in let q = var d in
    let eight = number 8 in let factor = number 16 in
    same
    (times s (minus e (plus (times factor (plus p q)) eight)))
    (plus (times s (minus e (plus (times factor p) eight)))
    (times q (minus (times s (minus e (plus (times factor (number 1)) eight))) (times s (minus e (plus (times factor (number 0)) eight))))))
    (omega arith)
end_weight-straight (suc zero) start end at d =
    let s = var (int_signum (end -ℤ start)) in let e = var start in let p = var at in let q = var d in
    let eight = number 8 in let factor = number 16 in
    same
    (times s (minus (plus (times factor (plus p q)) eight) e))
    (plus (times s (minus (plus (times factor p) eight) e))
    (times q (minus (times s (minus (plus (times factor (number 1)) eight) e)) (times s (minus (plus (times factor (number 0)) eight) e)))))
    (omega arith)
end_weight-straight (suc (suc k)) start end at d = omega (arith, ints)

still : (a j : ℤ) → j *ℤ (a -ℤ a) ≡ pos 0
still a j = let p = var a in same (times (var j) (minus p p)) (number 0) (omega arith)

along_first : (n w r o i j : ℤ) → n ≡ w +ℤ (i *ℤ (r -ℤ o)) → n ≡ w +ℤ (i *ℤ (r -ℤ o)) +ℤ (j *ℤ (o -ℤ o))
along_first n w r o i j e = rw (still o j) (omega (arith, ints, e))

along_second : (n w r o i j : ℤ) → n ≡ w +ℤ (j *ℤ (r -ℤ o)) → n ≡ w +ℤ (i *ℤ (o -ℤ o)) +ℤ (j *ℤ (r -ℤ o))
along_second n w r o i j e = rw (still o i) (omega (arith, ints, e))

by_axis-straight : (a b : VertexOut) (k : ℕ) (x y i j : ℤ) (m : Bool) → is_x_major a b ≡ m
    → line_weight a b k (x +ℤ i) (y +ℤ j) ≡ line_weight a b k x y
    +ℤ (i *ℤ (line_weight a b k (pos 1) (pos 0) -ℤ line_weight a b k (pos 0) (pos 0)))
    +ℤ (j *ℤ (line_weight a b k (pos 0) (pos 1) -ℤ line_weight a b k (pos 0) (pos 0)))
unfolding line_weight
by_axis-straight a b k x y i j true e =
    rw e (along_first _ _ (end_weight k a.x b.x (center (pos 1))) (end_weight k a.x b.x (center (pos 0))) i j (end_weight-straight k a.x b.x x i))
by_axis-straight a b k x y i j false e =
    rw e (along_second _ _ (end_weight k a.y b.y (center (pos 1))) (end_weight k a.y b.y (center (pos 0))) i j (end_weight-straight k a.y b.y y j))

constant-straight : (a i j : ℤ) → a ≡ a +ℤ (i *ℤ (a -ℤ a)) +ℤ (j *ℤ (a -ℤ a))
constant-straight a i j =
    let p = var a in same p (plus (plus p (times (var i) (minus p p))) (times (var j) (minus p p))) (omega arith)

by_kind-straight : (kind : PrimKind) (p : Primitive) (k : ℕ) (x y i j : ℤ) → p.kind ≡ kind
    → weight p k (x +ℤ i) (y +ℤ j) ≡ weight p k x y
    +ℤ (i *ℤ (weight p k (pos 1) (pos 0) -ℤ weight p k (pos 0) (pos 0)))
    +ℤ (j *ℤ (weight p k (pos 0) (pos 1) -ℤ weight p k (pos 0) (pos 0)))
by_kind-straight Triangle p k x y i j e =
    rw (weight-Triangle p k (x +ℤ i) (y +ℤ j) e, weight-Triangle p k x y e, weight-Triangle p k (pos 1) (pos 0) e, weight-Triangle p k (pos 0) (pos 1) e, weight-Triangle p k (pos 0) (pos 0) e)
    (edge-straight (edge_start p k) (edge_end p k) x y i j)
by_kind-straight Line p k x y i j e =
    rw (weight-Line p k (x +ℤ i) (y +ℤ j) e, weight-Line p k x y e, weight-Line p k (pos 1) (pos 0) e, weight-Line p k (pos 0) (pos 1) e, weight-Line p k (pos 0) (pos 0) e)
    (by_axis-straight (corner p 0) (corner p 1) k x y i j (is_x_major (corner p 0) (corner p 1)) refl)
by_kind-straight Point p k x y i j e =
    rw (weight-Point p k (x +ℤ i) (y +ℤ j) e, weight-Point p k x y e, weight-Point p k (pos 1) (pos 0) e, weight-Point p k (pos 0) (pos 1) e, weight-Point p k (pos 0) (pos 0) e)
    (constant-straight _ i j)

-- the weight i columns and j rows further
pub weight-straight : (p : Primitive) (k : ℕ) (x y i j : ℤ)
    → weight p k (x +ℤ i) (y +ℤ j) ≡ weight p k x y
    +ℤ (i *ℤ (weight p k (pos 1) (pos 0) -ℤ weight p k (pos 0) (pos 0)))
    +ℤ (j *ℤ (weight p k (pos 0) (pos 1) -ℤ weight p k (pos 0) (pos 0)))
weight-straight p k x y i j = by_kind-straight p.kind p k x y i j refl
