-- A value of the corners at a pixel, in perspective (OpenGL 1.5, 3.5.1): each corner counts by its weight
-- times its q, which is one over its w.
use Rattle.std.specs.Prelude.{ℕ, ℤ, pos, ◌*ℤ◌, List, [], ◌∷◌, slice_index, unsigned_abs}
use Rattle.fx_arith.specs.Number.{floor_div}
use Rattle.gl_records.specs.declared.prim.Primitive.{Primitive}
use Rattle.gl_records.specs.declared.prim.VertexOut.{VertexOut}
use Rattle.gl_records.specs.Weights.{weighted_sum}

-- a value of the corners at the centre of pixel (x, y), for a primitive that covers the pixel
unfoldable pub interpolated : Primitive → (VertexOut → ℤ) → ℤ → ℤ → ℤ
interpolated p value x y =
    floor_div (weighted_sum p (λ v. pos v.q *ℤ value v) x y) (unsigned_abs (weighted_sum p (λ v. pos v.q) x y))

-- component k of the colour, 0 to 255
abbrev pub component : Primitive → ℕ → ℤ → ℤ → ℕ
component p k x y = unsigned_abs (interpolated p (λ v. pos (slice_index v.rgba k)) x y)

-- the colour before texturing, R G B A
abbrev pub interpolated_color : Primitive → ℤ → ℤ → List ℕ
interpolated_color p x y = component p 0 x y ∷ component p 1 x y ∷ component p 2 x y ∷ component p 3 x y ∷ []
