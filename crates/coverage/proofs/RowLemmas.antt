-- The rows of a tile.
use Rattle.std.specs.Prelude.{ℕ, ℤ, pos, ◌+◌, ◌^◌, ◌<◌, ◌≤◌, ◌+ℤ◌, ◌-ℤ◌, ◌*ℤ◌, ◌≡◌, Bool, true, false, ◌&&◌, min, bit_and, if◌then◌else◌, unsigned_abs}
use Rattle.std.specs.Int.{bit_at}
use Rattle.std.proofs.Common.{refl, ◌∙◌, ap, arith, FitsSigned, w64}
use Rattle.std.proofs.lemmas.Int.{ints}
use Rattle.std.proofs.lemmas.Nat.Bits.{bit_at_and, bit_at-zero}
use Rattle.coverage.specs.declared.triangle.EdgeSteps.{EdgeSteps}
use Rattle.coverage.specs.Steps.{margin, row_bit}
use Rattle.coverage.proofs.FillRuleLemmas.{covered_by}
use Rattle.coverage.proofs.StepLemmas.{inside-stepped}
use Rattle.coverage.proofs.Whole.{unsigned_abs-product}
use Rattle.gl_records.specs.declared.prim.Primitive.{Primitive}
use Rattle.gl_records.specs.declared.prim.PrimKind.TheVariants.{Point, Line, Triangle}
use Rattle.gl_records.specs.declared.prim.VertexOut.{VertexOut}
use Rattle.gl_records.specs.Coverage.{corner, covers, inside, inside_edge}
use Rattle.gl_records.specs.LineCoverage.{line_covers}
use Rattle.gl_records.specs.PointCoverage.{point_covers}

-- the start of row r of a tile
pub start_fits : (value up : ℤ) (r : ℕ) → r < 16 → unsigned_abs value ≤ 2 ^ 57 → unsigned_abs up ≤ 2 ^ 37
    → FitsSigned w64 (pos r *ℤ up) × FitsSigned w64 (value +ℤ (pos r *ℤ up))
start_fits value up r h p q =
    let less : r ≤ 16 = omega arith in
    let small = unsigned_abs-product (pos r) up 16 (2 ^ 37) less q in
    (omega (arith, ints), omega (arith, ints))

pub and_three : (u v w i : ℕ) → bit_at (bit_and (bit_and u v) w) i ≡ min (min (bit_at u i) (bit_at v i)) (bit_at w i)
and_three u v w i = bit_at_and (bit_and u v) w i ∙ ap (λ (n : ℕ). min n (bit_at w i)) (bit_at_and u v i)

-- a row whose first two edges show no bit in common
pub none_of_two : (i u v w first second : ℕ) → bit_and first second ≡ 0 → bit_at first i ≡ u → bit_at second i ≡ v
    → bit_at 0 i ≡ min (min u v) w
none_of_two i u v w first second none is is_second =
    let blank : 0 ≡ min 0 w = omega arith in
    rw (← is, ← is_second, ← bit_at_and first second i, none, bit_at-zero i) blank

bits_of_three : (a b c : Bool)
    → min (min (if a then 1 else 0) (if b then 1 else 0)) (if c then 1 else 0) ≡ (if a && b && c then 1 else 0)
bits_of_three true true true = refl
bits_of_three true true false = refl
bits_of_three true false true = refl
bits_of_three true false false = refl
bits_of_three false true true = refl
bits_of_three false true false = refl
bits_of_three false false true = refl
bits_of_three false false false = refl

-- the steps are those of the edge from a to b, in the tile at (x, y)
pub record IsStepsOf (e : EdgeSteps) (a b : VertexOut) (x y : ℕ) : Type 0 where
  pub margin_is : e.margin ≡ margin a b (pos x) (pos y)
  pub right_is : e.right ≡ pos 16 *ℤ (a.y -ℤ b.y)
  pub up_is : e.up ≡ pos 16 *ℤ (b.x -ℤ a.x)

edge_bit : (e : EdgeSteps) (a b : VertexOut) (x y r i : ℕ) → IsStepsOf e a b x y
    → row_bit (e.margin +ℤ (pos r *ℤ e.up)) e.right i ≡ (if inside_edge a b (pos (x + i)) (pos (y + r)) then 1 else 0)
edge_bit e a b x y r i h = rw (h.margin_is, h.right_is, h.up_is, inside-stepped a b x y i r)

pub exact_bit : (p : Primitive) (d e f : EdgeSteps) (x y r i bit : ℕ) → p.kind ≡ Triangle
    → IsStepsOf d (corner p 1) (corner p 2) x y → IsStepsOf e (corner p 2) (corner p 0) x y → IsStepsOf f (corner p 0) (corner p 1) x y
    → bit ≡ min
    (min (row_bit (d.margin +ℤ (pos r *ℤ d.up)) d.right i) (row_bit (e.margin +ℤ (pos r *ℤ e.up)) e.right i))
    (row_bit (f.margin +ℤ (pos r *ℤ f.up)) f.right i)
    → bit ≡ (if covers p (pos (x + i)) (pos (y + r)) then 1 else 0)
exact_bit p d e f x y r i bit kind first second third is =
    rw (
      is,
      edge_bit d (corner p 1) (corner p 2) x y r i first,
      edge_bit e (corner p 2) (corner p 0) x y r i second,
      edge_bit f (corner p 0) (corner p 1) x y r i third,
      covered_by p (pos (x + i)) (pos (y + r)) kind,
    )
    (bits_of_three (inside p 0 (pos (x + i)) (pos (y + r))) (inside p 1 (pos (x + i)) (pos (y + r)))
    (inside p 2 (pos (x + i)) (pos (y + r))))

pub line_bit : (p : Primitive) (x y : ℤ) (bit : ℕ) → p.kind ≡ Line
    → bit ≡ (if line_covers (corner p 0) (corner p 1) p.width x y then 1 else 0) → bit ≡ (if covers p x y then 1 else 0)
unfolding covers
line_bit p x y bit e is = rw e is

pub point_bit : (p : Primitive) (x y : ℤ) (bit : ℕ) → p.kind ≡ Point
    → bit ≡ (if point_covers (corner p 0) p.width x y then 1 else 0) → bit ≡ (if covers p x y then 1 else 0)
unfolding covers
point_bit p x y bit e is = rw e is
