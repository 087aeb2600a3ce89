-- The texture coordinates of a primitive at a pixel (OpenGL 1.5, 3.5.1; OpenGL ES 1.1.12, 3.7), as GLfixed: each
-- corner counts by its weight times its q, and s and t are divided by the third texture coordinate.
use Rattle.std.specs.Prelude.{ℕ, ℤ, pos, ◌*ℤ◌, Bool, [], int_lt, slice_index_or, if◌then◌else◌}
use Rattle.fx_arith.specs.Number.{div}
use Rattle.gl_records.specs.declared.prim.Primitive.{Primitive}
use Rattle.gl_records.specs.declared.prim.VertexOut.{VertexOut}
use Rattle.gl_records.specs.Weights.{weighted_sum}

-- texture coordinate k of a corner for a unit, of s, t and q
abbrev pub corner_coordinate : ℕ → ℕ → VertexOut → ℤ
corner_coordinate unit k v = slice_index_or (slice_index_or v.tex unit []) k (pos 0)

-- the sum of texture coordinate k in perspective, over the corners, at the centre of pixel (x, y)
unfoldable pub coordinate_sum : Primitive → ℕ → ℕ → ℤ → ℤ → ℤ
coordinate_sum p unit k x y = weighted_sum p (λ v. pos v.q *ℤ corner_coordinate unit k v) x y

-- what s and t are divided by
abbrev pub divisor : Primitive → ℕ → ℤ → ℤ → ℤ
divisor p unit x y = coordinate_sum p unit 2 x y

abbrev pub has_coordinates : Primitive → ℕ → ℤ → ℤ → Bool
has_coordinates p unit x y = int_lt (pos 0) (divisor p unit x y)

-- coordinate S (k = 0) or T (k = 1) of a unit at the centre of pixel (x, y); 0 where the divisor isn't above 0
unfoldable pub coordinate : Primitive → ℕ → ℕ → ℤ → ℤ → ℤ
coordinate p unit k x y =
    if has_coordinates p unit x y then div (coordinate_sum p unit k x y) (divisor p unit x y) else pos 0

-- S and T
abbrev pub s_at : Primitive → ℕ → ℤ → ℤ → ℤ
s_at p unit x y = coordinate p unit 0 x y

abbrev pub t_at : Primitive → ℕ → ℤ → ℤ → ℤ
t_at p unit x y = coordinate p unit 1 x y
