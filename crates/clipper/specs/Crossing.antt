-- Where an edge crosses a plane (OpenGL ES 1.1.12, 2.11 and 2.12.6); the rounding is this project's profile.
use Rattle.std.specs.Prelude.{ℕ, ℤ, pos, ◌≤◌, ◌^◌, ◌≤ℤ◌, ◌<ℤ◌, ◌+ℤ◌, ◌-ℤ◌, ◌*ℤ◌, List, [], ◌∷◌, slice_index_or, map, unsigned_abs}
use Rattle.fx_arith.specs.declared.fx.Fx.{Fx}
use Rattle.fx_arith.specs.Number.{component, fixed, floor_quotient}
use Rattle.gl_records.specs.declared.clip_vertex.ClipVertex.{ClipVertex}
use Rattle.clipper.specs.declared.crossing.Edge.{Edge}
use Rattle.clipper.specs.declared.planes.Plane.{Plane}
use Rattle.clipper.specs.Planes.{distance}

-- from a towards b, as far as the plane is on the way from a vertex at the distance from_a to one at from_b
unfoldable pub between : ℤ → ℤ → ℤ → ℤ → ℤ
between from_a from_b a b = a +ℤ floor_quotient ((b -ℤ a) *ℤ from_a) (from_a -ℤ from_b)

-- the same of a list's components
abbrev pub each_between : ℤ → ℤ → List ℕ → List Fx → List Fx → List Fx
each_between from_a from_b places a b = map (λ k. fixed (between from_a from_b (component a k) (component b k))) places

-- the same of a vertex, each of whose components goes by the one formula
unfoldable pub vertex_between : ℤ → ℤ → ClipVertex → ClipVertex → ClipVertex
vertex_between from_a from_b a b =
    let four = 0 ∷ 1 ∷ 2 ∷ 3 ∷ [] in
    let unit : ℕ → List Fx = λ u. each_between from_a from_b (0 ∷ 1 ∷ 2 ∷ []) (slice_index_or a.tex u []) (slice_index_or b.tex u []) in
    record {
      clip = each_between from_a from_b four a.clip b.clip;
      plane = fixed (between from_a from_b a.plane.0 b.plane.0);
      front = each_between from_a from_b four a.front b.front;
      back = each_between from_a from_b four a.back b.back;
      tex = unit 0 ∷ unit 1 ∷ [];
      fog = fixed (between from_a from_b a.fog.0 b.fog.0);
    }

-- where the edge from a vertex inside of a plane to one outside crosses it
abbrev pub crossing : Plane → ClipVertex → ClipVertex → ClipVertex
crossing plane inner outer = vertex_between (distance plane inner) (distance plane outer) inner outer

-- an edge with one end inside of a plane and the other outside, whose distances are those of vertices
pub record IsAcross (edge : Edge) : Type 0 where
  pub inside : pos 0 ≤ℤ edge.inner
  pub outside : edge.outer <ℤ pos 0
  pub inner_within : unsigned_abs edge.inner ≤ 2 ^ 32
  pub outer_within : unsigned_abs edge.outer ≤ 2 ^ 32
