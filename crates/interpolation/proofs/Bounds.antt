-- How large the weights of a primitive's corners can be.
use Rattle.std.specs.Prelude.{ℕ, zero, suc, ℤ, pos, negsuc, ◌*◌, ◌-ℤ◌, ◌*ℤ◌, ◌≤ℤ◌, ◌≡◌, ◌^◌, ◌≤◌, Bool, true, false, IsTrue, unsigned_abs}
use Rattle.std.specs.Int.{int_signum}
use Rattle.std.proofs.Common.{refl, arith}
use Rattle.std.proofs.lemmas.Int.{ints}
use Rattle.fx_arith.proofs.Products.{unsigned_abs-*ℤ-≤}
use Rattle.gl_records.specs.declared.prim.Primitive.{Primitive}
use Rattle.gl_records.specs.declared.prim.PrimKind.{PrimKind}
use Rattle.gl_records.specs.declared.prim.PrimKind.TheVariants.{Point, Line, Triangle}
use Rattle.gl_records.specs.declared.prim.VertexOut.{VertexOut}
use Rattle.gl_records.specs.Center.{center}
use Rattle.gl_records.specs.Coverage.{corner, covers, doubled_area, edge}
use Rattle.gl_records.specs.LineCoverage.{end_weight, is_x_major, line_weight}
use Rattle.gl_records.specs.Valid.{IsCornerInRange, IsInRange}
use Rattle.gl_records.specs.Weights.{AreWeights}
use Rattle.coverage.proofs.WeightLemmas.{AreWeights-covered, weight-Triangle, weight-Line, weight-Point}
use Rattle.interpolation.specs.Shares.{HasSmallWeights}

within : (u v w : ℤ) → AreWeights u v w
    → (unsigned_abs u ≤ 2 ^ 36) × (unsigned_abs v ≤ 2 ^ 36) × (unsigned_abs w ≤ 2 ^ 36)
within u v w h = omega (arith, ints)

-- at a pixel that the primitive covers
pub HasSmallWeights-covered : (p : Primitive) (x y : ℤ) → IsInRange p → IsTrue (covers p x y) → HasSmallWeights p x y
HasSmallWeights-covered p x y range covered =
    let all = within _ _ _ (AreWeights-covered p x y range covered) in
    record { first = all.0; second = all.1; third = all.2 }

-- a column of a surface or of the tile beyond, or a row
pub record IsNear (at : ℤ) : Type 0 where
  pub from : pos 0 ≤ℤ at
  pub to : at ≤ℤ pos 1040

apart : (a b : ℤ) → negsuc 65535 ≤ℤ a → a ≤ℤ pos 98304 → negsuc 65535 ≤ℤ b → b ≤ℤ pos 98304 → unsigned_abs (b -ℤ a) ≤ 163840
apart a b p q r s = omega (arith, ints)

reach : (a at : ℤ) → negsuc 65535 ≤ℤ a → a ≤ℤ pos 98304 → IsNear at → unsigned_abs (center at -ℤ a) ≤ 163840
reach a at p q near = omega (arith, ints, near.from, near.to)

back : (a at : ℤ) → negsuc 65535 ≤ℤ a → a ≤ℤ pos 98304 → IsNear at → unsigned_abs (a -ℤ center at) ≤ 163840
back a at p q near = omega (arith, ints, near.from, near.to)

difference : (a b : ℤ) → unsigned_abs a ≤ 163840 * 163840 → unsigned_abs b ≤ 163840 * 163840 → unsigned_abs (a -ℤ b) ≤ 2 ^ 36
difference a b p q = omega (arith, ints)

small_edge : (a b : VertexOut) (x y : ℤ) → IsCornerInRange a → IsCornerInRange b → IsNear x → IsNear y
    → unsigned_abs (edge a b (center x) (center y)) ≤ 2 ^ 36
unfolding doubled_area
small_edge a b x y p q near_x near_y =
    let one = unsigned_abs-*ℤ-≤ (b.x -ℤ a.x) (center y -ℤ a.y) 163840 163840
    (apart a.x b.x p.x_from p.x_to q.x_from q.x_to) (reach a.y y p.y_from p.y_to near_y) in
    let two = unsigned_abs-*ℤ-≤ (b.y -ℤ a.y) (center x -ℤ a.x) 163840 163840
    (apart a.y b.y p.y_from p.y_to q.y_from q.y_to) (reach a.x x p.x_from p.x_to near_x) in
    difference ((b.x -ℤ a.x) *ℤ (center y -ℤ a.y)) ((b.y -ℤ a.y) *ℤ (center x -ℤ a.x)) one two

signum-small : (z : ℤ) → unsigned_abs (int_signum z) ≤ 1
signum-small (pos zero) = omega arith
signum-small (pos (suc n)) = omega arith
signum-small (negsuc n) = omega arith

small_end : (k : ℕ) (start end at : ℤ) → negsuc 65535 ≤ℤ start → start ≤ℤ pos 98304 → negsuc 65535 ≤ℤ end → end ≤ℤ pos 98304
    → IsNear at → unsigned_abs (end_weight k start end (center at)) ≤ 2 ^ 36
small_end zero start end at p q r s near =
    let most = unsigned_abs-*ℤ-≤ (int_signum (end -ℤ start)) (end -ℤ center at) 1 163840 (signum-small (end -ℤ start)) (back end at r s near) in
    omega (arith, most)
small_end (suc zero) start end at p q r s near =
    let most = unsigned_abs-*ℤ-≤ (int_signum (end -ℤ start)) (center at -ℤ start) 1 163840 (signum-small (end -ℤ start)) (reach start at p q near) in
    omega (arith, most)
small_end (suc (suc k)) start end at p q r s near = omega arith

by_axis : (a b : VertexOut) (k : ℕ) (x y : ℤ) (m : Bool) → is_x_major a b ≡ m → IsCornerInRange a → IsCornerInRange b → IsNear x → IsNear y
    → unsigned_abs (line_weight a b k x y) ≤ 2 ^ 36
unfolding line_weight
by_axis a b k x y true e p q near_x near_y = rw e (small_end k a.x b.x x p.x_from p.x_to q.x_from q.x_to near_x)
by_axis a b k x y false e p q near_x near_y = rw e (small_end k a.y b.y y p.y_from p.y_to q.y_from q.y_to near_y)

small_line : (p : Primitive) (k : ℕ) (x y : ℤ) → IsInRange p → IsNear x → IsNear y → unsigned_abs (line_weight (corner p 0) (corner p 1) k x y) ≤ 2 ^ 36
small_line p k x y range near_x near_y =
    by_axis (corner p 0) (corner p 1) k x y (is_x_major (corner p 0) (corner p 1)) refl range.first range.second near_x near_y

by_kind : (kind : PrimKind) (p : Primitive) (x y : ℤ) → p.kind ≡ kind → IsInRange p → IsNear x → IsNear y → HasSmallWeights p x y
by_kind Triangle p x y e range near_x near_y = record {
  first = rw (weight-Triangle p 0 x y e) (small_edge (corner p 1) (corner p 2) x y range.second range.third near_x near_y);
  second = rw (weight-Triangle p 1 x y e) (small_edge (corner p 2) (corner p 0) x y range.third range.first near_x near_y);
  third = rw (weight-Triangle p 2 x y e) (small_edge (corner p 0) (corner p 1) x y range.first range.second near_x near_y);
}
by_kind Line p x y e range near_x near_y = record {
  first = rw (weight-Line p 0 x y e) (small_line p 0 x y range near_x near_y);
  second = rw (weight-Line p 1 x y e) (small_line p 1 x y range near_x near_y);
  third = rw (weight-Line p 2 x y e) (small_line p 2 x y range near_x near_y);
}
by_kind Point p x y e range near_x near_y = record {
  first = rw (weight-Point p 0 x y e) (omega arith);
  second = rw (weight-Point p 1 x y e) (omega arith);
  third = rw (weight-Point p 2 x y e) (omega arith);
}

-- at a pixel of the surface, or of the tiles beyond
pub HasSmallWeights-near : (p : Primitive) (x y : ℤ) → IsInRange p → IsNear x → IsNear y → HasSmallWeights p x y
HasSmallWeights-near p x y range near_x near_y = by_kind p.kind p x y refl range near_x near_y

pub near-first : IsNear (pos 0)
near-first = record { from = omega (arith, ints); to = omega (arith, ints) }

pub near-second : IsNear (pos 1)
near-second = record { from = omega (arith, ints); to = omega (arith, ints) }

pub near-place : (n : ℕ) → n ≤ 1040 → IsNear (pos n)
near-place n h = record { from = omega (arith, ints); to = omega (arith, ints) }
