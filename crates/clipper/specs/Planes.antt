-- The planes that clip (OpenGL ES 1.1.12, 2.11): those of the clip volume, and the user's. Their order, and the
-- plane that keeps w above 0, are this project's profile.
use Rattle.std.specs.Prelude.{ℤ, pos, ◌≤ℤ◌, ◌+ℤ◌, ◌-ℤ◌, Bool, not, int_lt, List, [], ◌∷◌, if◌then◌else◌}
use Rattle.fx_arith.specs.Number.{component}
use Rattle.gl_records.specs.declared.clip_vertex.ClipVertex.{ClipVertex}
use Rattle.gl_records.specs.ClipVertex.{w_of}
use Rattle.clipper.specs.declared.planes.Plane.{Plane}
use Rattle.clipper.specs.declared.planes.Plane.TheVariants.{LeastW, Left, Right, Bottom, Top, Near, Far, User}

-- how far a vertex is inside of a plane, in raw units and without bound: below 0 where it is outside
unfoldable pub distance : Plane → ClipVertex → ℤ
distance LeastW v = w_of v -ℤ pos 1
distance Left v = w_of v +ℤ component v.clip 0
distance Right v = w_of v -ℤ component v.clip 0
distance Bottom v = w_of v +ℤ component v.clip 1
distance Top v = w_of v -ℤ component v.clip 1
distance Near v = w_of v +ℤ component v.clip 2
distance Far v = w_of v -ℤ component v.clip 2
distance User v = v.plane.0

-- on the plane is inside too
abbrev pub is_inside : Plane → ClipVertex → Bool
is_inside plane v = not (int_lt (distance plane v) (pos 0))

-- the planes in their order, with the user's or without it
abbrev pub planes : Bool → List Plane
planes user = LeastW ∷ Left ∷ Right ∷ Bottom ∷ Top ∷ Near ∷ Far ∷ (if user then User ∷ [] else [])

-- w is at least one raw unit, so that it can be divided by
abbrev pub IsInFront : ClipVertex → Type 0
IsInFront v = pos 1 ≤ℤ w_of v
