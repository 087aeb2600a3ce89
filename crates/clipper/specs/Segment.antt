-- Line segments, as lists of their two ends, clipped by one plane after another (OpenGL ES 1.1.12, 2.11).
use Rattle.std.specs.Prelude.{List, [], ◌∷◌, Option, Some, None, option_and_then, fold, if◌then◌else◌}
use Rattle.gl_records.specs.declared.clip_vertex.ClipVertex.{ClipVertex}
use Rattle.gl_records.specs.ClipVertex.{vertex}
use Rattle.clipper.specs.declared.planes.Plane.{Plane}
use Rattle.clipper.specs.Crossing.{crossing}
use Rattle.clipper.specs.Planes.{is_inside}

-- a segment's part on the inner side of one plane: the crossing takes the place of an outside end
unfoldable pub shortened : List ClipVertex → Plane → Option (List ClipVertex)
shortened ends plane =
    let a = vertex ends 0 in
    let b = vertex ends 1 in
    if is_inside plane a then (if is_inside plane b then Some (a ∷ b ∷ []) else Some (a ∷ crossing plane a b ∷ [])) else
    if is_inside plane b then Some (crossing plane b a ∷ b ∷ []) else None

-- and of several planes, in their order
abbrev pub clipped_segment : List ClipVertex → List Plane → Option (List ClipVertex)
clipped_segment ends planes = fold (λ left plane. option_and_then (λ part. shortened part plane) left) (Some ends) planes
