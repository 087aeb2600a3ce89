-- Two triangles at an edge.
use Rattle.std.specs.Prelude.{ℕ, zero, suc, ℤ, pos, ◌+ℤ◌, ◌-ℤ◌, ◌<ℤ◌, ◌≡◌, Bool, true, not, ◌&&◌, ◌||◌, IsTrue, int_lt}
use Rattle.std.specs.Ordering.{int_eq}
use Rattle.std.proofs.Common.{sym, ◌∙◌, arith}
use Rattle.std.proofs.lemmas.Int.{ints}
use Rattle.std.proofs.Math.Bool.{and-true, true-and}
use Rattle.coverage.specs.FillRule.{IsOnEdge, SharesEdge}
use Rattle.coverage.proofs.CoverLemmas.{IsCovered, IsCovered-from, IsInside, IsInside-from, Owned}
use Rattle.coverage.proofs.EdgeLemmas.{edge-reverse, edge-same, edge-flat, edge-sum}
use Rattle.coverage.proofs.WeightLemmas.{weight-Triangle}
use Rattle.gl_records.specs.declared.prim.Primitive.{Primitive}
use Rattle.gl_records.specs.declared.prim.PrimKind.TheVariants.{Triangle}
use Rattle.gl_records.specs.declared.prim.VertexOut.{VertexOut}
use Rattle.gl_records.specs.Center.{center}
use Rattle.gl_records.specs.Coverage.{corner, covers, edge, edge_start, edge_end, inside, inside_edge, owns}

-- of a direction and its reverse exactly one owns the centres on it
pub owns-reverse : (dx dy : ℤ) → ¬ ((dx ≡ pos 0) × (dy ≡ pos 0)) → owns dx dy ≡ not (owns (pos 0 -ℤ dx) (pos 0 -ℤ dy))
owns-reverse dx dy h = grind (arith, ints)

-- ---- no centre is covered twice
pub inside-of : (p : Primitive) (x y : ℤ) → IsCovered p x y → (j : ℕ) → IsTrue (inside p j x y)
inside-of p x y h zero = h.first
inside-of p x y h (suc zero) = h.second
inside-of p x y h (suc (suc j)) = h.third

opposite : (e f dx dy u v : ℤ) → IsInside e dx dy → IsInside f u v → f ≡ pos 0 -ℤ e → u ≡ pos 0 -ℤ dx → v ≡ pos 0 -ℤ dy → ⊥
opposite e f dx dy u v p q h i j =
    let e_zero : e ≡ pos 0 = omega (arith, ints, p.at_least, q.at_least) in
    let f_zero : f ≡ pos 0 = omega (arith, ints, p.at_least, q.at_least) in
    let mine : Owned dx dy = p.owned e_zero in
    let theirs : Owned u v = q.owned f_zero in
    omega (arith, ints)

run_back : (a b c d : ℤ) → a ≡ d → b ≡ c → d -ℤ c ≡ pos 0 -ℤ (b -ℤ a)
run_back a b c d h i = omega (arith, ints)

-- a place is as far to the left of one's edge as it is to the right of the other's
pub two_sides : (p q : Primitive) (j k : ℕ) (x y : ℤ) → SharesEdge p q j k
    → edge (edge_start q k) (edge_end q k) x y ≡ pos 0 -ℤ edge (edge_start p j) (edge_end p j) x y
two_sides p q j k x y h =
    edge-same (edge_start q k) (edge_end q k) (edge_end p j) (edge_start p j) x y
    (sym h.end_x) (sym h.end_y) (sym h.start_x) (sym h.start_y)
    ∙ edge-reverse (edge_start p j) (edge_end p j) x y

pub disjoint : (p q : Primitive) (j k : ℕ) (x y : ℤ) → SharesEdge p q j k → IsTrue (covers p x y) → IsTrue (covers q x y) → ⊥
disjoint p q j k x y h mine theirs =
    let a = edge_start p j in let b = edge_end p j in let c = edge_start q k in let d = edge_end q k in
    let first = IsInside-from a b x y (inside-of p x y (IsCovered-from p x y h.p_is_triangle mine) j) in
    let second = IsInside-from c d x y (inside-of q x y (IsCovered-from q x y h.q_is_triangle theirs) k) in
    let back = two_sides p q j k (center x) (center y) h in
    let along : d.x -ℤ c.x ≡ pos 0 -ℤ (b.x -ℤ a.x) = run_back a.x b.x c.x d.x h.start_x h.end_x in
    let across : d.y -ℤ c.y ≡ pos 0 -ℤ (b.y -ℤ a.y) = run_back a.y b.y c.y d.y h.start_y h.end_y in
    opposite (edge a b (center x) (center y)) (edge c d (center x) (center y)) (b.x -ℤ a.x) (b.y -ℤ a.y) (d.x -ℤ c.x) (d.y -ℤ c.y)
    first second back along across

-- ---- a centre on the edge is covered once
above : (e : ℤ) (own : Bool) → pos 0 <ℤ e → (int_lt (pos 0) e || (int_eq e (pos 0) && own)) ≡ true
above e own h = grind (arith, ints)

inside-above : (a b : VertexOut) (x y : ℤ) → pos 0 <ℤ edge a b (center x) (center y) → inside_edge a b x y ≡ true
inside-above a b x y h = above (edge a b (center x) (center y)) (owns (b.x -ℤ a.x) (b.y -ℤ a.y)) h

inside-on : (a b : VertexOut) (x y : ℤ) → edge a b (center x) (center y) ≡ pos 0
    → inside_edge a b x y ≡ owns (b.x -ℤ a.x) (b.y -ℤ a.y)
inside-on a b x y h = rw h

total_zero : (u v w total : ℤ) → u ≡ pos 0 → pos 0 <ℤ v → pos 0 <ℤ w → v +ℤ w +ℤ u ≡ total → total ≡ pos 0 → ⊥
total_zero u v w total h i j k l = omega (arith, ints)

-- the edge that the centre lies on has some length
long : (a b c : VertexOut) (x y : ℤ) → edge a b x y ≡ pos 0 → pos 0 <ℤ edge b c x y → pos 0 <ℤ edge c a x y
    → ¬ ((b.x -ℤ a.x ≡ pos 0) × (b.y -ℤ a.y ≡ pos 0))
long a b c x y on first second flat =
    let sum = edge-sum a b c x y in
    let none = edge-flat a b c.x c.y flat.0 flat.1 in
    total_zero (edge a b x y) (edge b c x y) (edge c a x y) (edge a b c.x c.y) on first second sum none

-- what covers says of a centre on edge j, and that this edge has some length
record Decided (p : Primitive) (j : ℕ) (x y : ℤ) : Type 0 where
  pub covered : covers p x y
      ≡ owns ((edge_end p j).x -ℤ (edge_start p j).x) ((edge_end p j).y -ℤ (edge_start p j).y)
  pub long : ¬ (((edge_end p j).x -ℤ (edge_start p j).x ≡ pos 0) × ((edge_end p j).y -ℤ (edge_start p j).y ≡ pos 0))

pub covered_by : (p : Primitive) (x y : ℤ) → p.kind ≡ Triangle → covers p x y ≡ (inside p 0 x y && inside p 1 x y && inside p 2 x y)
unfolding covers
covered_by p x y e = rw e

decided : (p : Primitive) (j : ℕ) (x y : ℤ) → p.kind ≡ Triangle → IsOnEdge p j x y → Decided p j x y
decided p zero x y e h =
    let on = rw (weight-Triangle p 0 x y e) at h.on in
    let first = rw (weight-Triangle p 1 x y e) at (h.left_of_others 1 (omega arith) (omega arith)) in
    let second = rw (weight-Triangle p 2 x y e) at (h.left_of_others 2 (omega arith) (omega arith)) in
    record {
      covered = rw (
        covered_by p x y e,
        inside-on (corner p 1) (corner p 2) x y on,
        inside-above (corner p 2) (corner p 0) x y first,
        inside-above (corner p 0) (corner p 1) x y second,
        and-true,
        and-true,
      );
      long = long (corner p 1) (corner p 2) (corner p 0) (center x) (center y) on first second;
    }
decided p (suc zero) x y e h =
    let on = rw (weight-Triangle p 1 x y e) at h.on in
    let first = rw (weight-Triangle p 2 x y e) at (h.left_of_others 2 (omega arith) (omega arith)) in
    let second = rw (weight-Triangle p 0 x y e) at (h.left_of_others 0 (omega arith) (omega arith)) in
    record {
      covered = rw (
        covered_by p x y e,
        inside-on (corner p 2) (corner p 0) x y on,
        inside-above (corner p 0) (corner p 1) x y first,
        inside-above (corner p 1) (corner p 2) x y second,
        true-and,
        and-true,
      );
      long = long (corner p 2) (corner p 0) (corner p 1) (center x) (center y) on first second;
    }
decided p (suc (suc j)) x y e h =
    let on = rw (weight-Triangle p (suc (suc j)) x y e) at h.on in
    let first = rw (weight-Triangle p 0 x y e) at (h.left_of_others 0 (omega arith) (omega arith)) in
    let second = rw (weight-Triangle p 1 x y e) at (h.left_of_others 1 (omega arith) (omega arith)) in
    record {
      covered = rw (
        covered_by p x y e,
        inside-on (corner p 0) (corner p 1) x y on,
        inside-above (corner p 1) (corner p 2) x y first,
        inside-above (corner p 2) (corner p 0) x y second,
        true-and,
        true-and,
      );
      long = long (corner p 0) (corner p 1) (corner p 2) (center x) (center y) on first second;
    }

pub exactly_one : (p q : Primitive) (j k : ℕ) (x y : ℤ) → SharesEdge p q j k → IsOnEdge p j x y → IsOnEdge q k x y
    → covers p x y ≡ not (covers q x y)
exactly_one p q j k x y h mine theirs =
    let a = edge_start p j in let b = edge_end p j in let c = edge_start q k in let d = edge_end q k in
    let first = decided p j x y h.p_is_triangle mine in
    let second = decided q k x y h.q_is_triangle theirs in
    let along : d.x -ℤ c.x ≡ pos 0 -ℤ (b.x -ℤ a.x) = run_back a.x b.x c.x d.x h.start_x h.end_x in
    let across : d.y -ℤ c.y ≡ pos 0 -ℤ (b.y -ℤ a.y) = run_back a.y b.y c.y d.y h.start_y h.end_y in
    rw (first.covered, second.covered, along, across) (owns-reverse (b.x -ℤ a.x) (b.y -ℤ a.y) first.long)
