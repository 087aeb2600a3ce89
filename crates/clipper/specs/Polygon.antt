-- Polygons, as lists of their corners, clipped by one plane after another (OpenGL ES 1.1.12, 2.11); where the
-- list that is left begins is this project's profile.
use Rattle.std.specs.Prelude.{◌≡◌, ℕ, ◌+◌, ◌-◌, ◌%◌, ◌<◌, Bool, true, false, not, ◌&&◌, List, [], ◌∷◌, ◌++◌, length, take, drop, fold, if◌then◌else◌}
use Rattle.std.specs.List.{list_all, list_any, position_or_len, range_with_len, suffix_len}
use Rattle.gl_records.specs.declared.clip_vertex.ClipVertex.{ClipVertex}
use Rattle.gl_records.specs.ClipVertex.{vertex}
use Rattle.clipper.specs.declared.planes.Plane.{Plane}
use Rattle.clipper.specs.Crossing.{crossing}
use Rattle.clipper.specs.Planes.{is_inside}

-- corner i, where corner 0 comes again after the last
abbrev pub corner : List ClipVertex → ℕ → ClipVertex
corner corners i = vertex corners (i % length corners)

-- at corner i the polygon goes out: it is inside, and the corner after it is outside
abbrev pub goes_out : Plane → List ClipVertex → ℕ → Bool
goes_out plane corners i = is_inside plane (corner corners i) && not (is_inside plane (corner corners (i + 1)))

-- the least corner at which it goes out
unfoldable pub first_out : Plane → List ClipVertex → ℕ
first_out plane corners = position_or_len (goes_out plane corners) (range_with_len 0 (length corners))

-- the corners from the one after corner i round to corner i
abbrev pub turned : ℕ → List ClipVertex → List ClipVertex
turned i corners = drop (i + 1) corners ++ take (i + 1) corners

-- how many inside corners come one after the other at the end of a list
abbrev pub run_length : Plane → List ClipVertex → ℕ
run_length plane corners = suffix_len (is_inside plane) corners

-- of corners that begin outside and end inside: the crossing before the run of inside corners at the end, that
-- run, and the crossing after it
unfoldable pub cut : Plane → List ClipVertex → List ClipVertex
cut plane corners =
    let start = length corners - run_length plane corners in
    let last = length corners - 1 in
    crossing plane (vertex corners start) (vertex corners (start - 1)) ∷ drop start corners
    ++ crossing plane (vertex corners last) (vertex corners 0) ∷ []

-- a polygon's part on the inner side of one plane
unfoldable pub clipped : List ClipVertex → Plane → List ClipVertex
clipped corners plane =
    if list_all (is_inside plane) corners then corners else
    if not (list_any (is_inside plane) corners) then [] else
    cut plane (turned (first_out plane corners) corners)

-- and of several planes, in their order
abbrev pub clipped_polygon : List ClipVertex → List Plane → List ClipVertex
clipped_polygon corners planes = fold clipped corners planes

-- neither all inside nor all outside
pub record IsMixed (plane : Plane) (corners : List ClipVertex) : Type 0 where
  pub some_outside : list_all (is_inside plane) corners ≡ false
  pub some_inside : list_any (is_inside plane) corners ≡ true

-- a list that begins outside and ends inside
pub record IsTurned (plane : Plane) (corners : List ClipVertex) : Type 0 where
  pub some : 0 < length corners
  pub first : is_inside plane (vertex corners 0) ≡ false
  pub last : is_inside plane (vertex corners (length corners - 1)) ≡ true

-- a place at which a list comes in
pub record ComesInAt (plane : Plane) (corners : List ClipVertex) (start : ℕ) : Type 0 where
  pub some_before : 0 < start
  pub some_left : start < length corners
  pub inside : is_inside plane (vertex corners start) ≡ true
  pub outside : is_inside plane (vertex corners (start - 1)) ≡ false
