-- Which pixels a primitive covers, one pixel at a time. A triangle covers those whose centres lie inside of its
-- edges (OpenGL 1.5, 3.5.1). Places are in units of 1/16 pixel, from the lower left of the surface.
use Rattle.std.specs.Prelude.{ℕ, zero, suc, ℤ, pos, ◌-ℤ◌, ◌*ℤ◌, int_lt, Bool, ◌&&◌, ◌||◌, [], slice_index_or}
use Rattle.std.specs.Ordering.{int_eq}
use Rattle.gl_records.specs.declared.prim.Primitive.{Primitive}
use Rattle.gl_records.specs.declared.prim.PrimKind.{PrimKind}
use Rattle.gl_records.specs.declared.prim.PrimKind.TheVariants.{Point, Line, Triangle}
use Rattle.gl_records.specs.declared.prim.VertexOut.{VertexOut}
use Rattle.gl_records.specs.Center.{center}
use Rattle.gl_records.specs.LineCoverage.{line_covers}
use Rattle.gl_records.specs.PointCoverage.{point_covers}

-- twice the area of the triangle with the corners (ax, ay), (bx, by) and (cx, cy): above 0 where they run
-- counterclockwise
unfoldable pub doubled_area : ℤ → ℤ → ℤ → ℤ → ℤ → ℤ → ℤ
doubled_area ax ay bx by cx cy = ((bx -ℤ ax) *ℤ (cy -ℤ ay)) -ℤ ((by -ℤ ay) *ℤ (cx -ℤ ax))

-- the edge function of the edge from a to b at a place, of the triangle that the edge and the place make: above 0
-- to the edge's left, 0 on it, below 0 to its right
abbrev pub edge : VertexOut → VertexOut → ℤ → ℤ → ℤ
edge a b x y = doubled_area a.x a.y b.x b.y x y

-- the fill rule: an edge in this direction owns the centres on it, and its reverse does not
-- (this project's profile; OpenGL 1.5, 3.5.1, asks that one of two triangles at an edge has such a centre)
abbrev pub owns : ℤ → ℤ → Bool
owns dx dy = int_lt (pos 0) dy || (int_eq dy (pos 0) && int_lt (pos 0) dx)

-- the centre of pixel (x, y) is to the left of the edge from a to b, or on it and owned by it
abbrev pub inside_edge : VertexOut → VertexOut → ℤ → ℤ → Bool
inside_edge a b x y =
    int_lt (pos 0) (edge a b (center x) (center y))
    || (int_eq (edge a b (center x) (center y)) (pos 0) && owns (b.x -ℤ a.x) (b.y -ℤ a.y))

-- what stands for a corner that is not there
abbrev pub no_corner : VertexOut
no_corner = record { x = pos 0; y = pos 0; z = pos 0; q = 0; rgba = []; tex = []; fog = pos 0 }

abbrev pub corner : Primitive → ℕ → VertexOut
corner p k = slice_index_or p.verts k no_corner

-- the corner after corner k, in turn
abbrev pub next : ℕ → ℕ
next zero = 1
next (suc zero) = 2
next (suc (suc k)) = 0

-- where the edge that lies across from corner k starts and ends: edge 0 runs from corner 1 to corner 2,
-- edge 1 from 2 to 0, edge 2 from 0 to 1
abbrev pub edge_start : Primitive → ℕ → VertexOut
edge_start p k = corner p (next k)

abbrev pub edge_end : Primitive → ℕ → VertexOut
edge_end p k = corner p (next (next k))

abbrev pub inside : Primitive → ℕ → ℤ → ℤ → Bool
inside p k x y = inside_edge (edge_start p k) (edge_end p k) x y

abbrev pub covers_as : PrimKind → Primitive → ℤ → ℤ → Bool
covers_as Triangle p x y = inside p 0 x y && inside p 1 x y && inside p 2 x y
covers_as Line p x y = line_covers (corner p 0) (corner p 1) p.width x y
covers_as Point p x y = point_covers (corner p 0) p.width x y

-- the primitive covers pixel (x, y)
unfoldable pub covers : Primitive → ℤ → ℤ → Bool
covers p x y = covers_as p.kind p x y
