-- How much each corner of a primitive counts at a pixel (OpenGL 1.5, 3.5.1).
use Rattle.std.specs.Prelude.{ℕ, zero, suc, ℤ, pos, ◌+ℤ◌, ◌*ℤ◌, ◌<ℤ◌, ◌≤ℤ◌, ◌^◌, List, [], ◌∷◌}
use Rattle.gl_records.specs.declared.prim.Primitive.{Primitive}
use Rattle.gl_records.specs.declared.prim.PrimKind.{PrimKind}
use Rattle.gl_records.specs.declared.prim.PrimKind.TheVariants.{Point, Line, Triangle}
use Rattle.gl_records.specs.declared.prim.VertexOut.{VertexOut}
use Rattle.gl_records.specs.Center.{center}
use Rattle.gl_records.specs.LineCoverage.{line_weight}
use Rattle.gl_records.specs.Coverage.{corner, edge, edge_start, edge_end}

abbrev pub only_first : ℕ → ℤ
only_first zero = pos 1
only_first (suc k) = pos 0

-- a triangle's corner counts by the edge across from it, a line's end by how far the other end is, and of a
-- point the first corner alone
abbrev pub weight_as : PrimKind → Primitive → ℕ → ℤ → ℤ → ℤ
weight_as Triangle p k x y = edge (edge_start p k) (edge_end p k) (center x) (center y)
weight_as Line p k x y = line_weight (corner p 0) (corner p 1) k x y
weight_as Point p k x y = only_first k

-- the weight of corner k at the centre of pixel (x, y)
unfoldable pub weight : Primitive → ℕ → ℤ → ℤ → ℤ
weight p k x y = weight_as p.kind p k x y

-- the weights of the three corners
abbrev pub weights : Primitive → ℤ → ℤ → List ℤ
weights p x y = weight p 0 x y ∷ weight p 1 x y ∷ weight p 2 x y ∷ []

-- what the weights are where the primitive covers the pixel: none is below 0, some is above it, and their sum,
-- which for a triangle is twice its area, has a bound
pub record AreWeights (first second third : ℤ) : Type 0 where
  pub first_from : pos 0 ≤ℤ first
  pub second_from : pos 0 ≤ℤ second
  pub third_from : pos 0 ≤ℤ third
  pub sum_above : pos 0 <ℤ (first +ℤ second +ℤ third)
  pub sum_to : (first +ℤ second +ℤ third) ≤ℤ pos (2 ^ 36)

-- the sum over the corners of their weight times a value of theirs
unfoldable pub weighted_sum : Primitive → (VertexOut → ℤ) → ℤ → ℤ → ℤ
weighted_sum p value x y =
    (weight p 0 x y *ℤ value (corner p 0))
    +ℤ (weight p 1 x y *ℤ value (corner p 1))
    +ℤ (weight p 2 x y *ℤ value (corner p 2))
