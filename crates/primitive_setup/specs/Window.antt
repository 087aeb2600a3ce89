-- Window coordinates (OpenGL ES 1.1.12, 2.10.1): places in 1/16 pixel, depths of 24 bits; the rounding is this
-- project's profile.
use Rattle.std.specs.Prelude.{ℕ, ℤ, pos, negsuc, ◌≤ℤ◌, ◌≤◌, ◌+ℤ◌, ◌-ℤ◌, ◌*ℤ◌, ◌^◌, Bool, List, [], ◌∷◌, if◌then◌else◌, slice_index_or, unsigned_abs}
use Rattle.fx_arith.specs.declared.fx.Fx.{Fx}
use Rattle.fx_arith.specs.Number.{c8, clamp, component, floor_quotient}
use Rattle.gl_records.specs.declared.clip_vertex.ClipVertex.{ClipVertex}
use Rattle.gl_records.specs.declared.pixel.TheConstants.{GREATEST_DEPTH}
use Rattle.gl_records.specs.declared.prim.VertexOut.{VertexOut}
use Rattle.gl_records.specs.declared.setup_rules.SetupRules.{SetupRules}
use Rattle.primitive_setup.specs.declared.window.Place.{Place}
use Rattle.gl_records.specs.ClipVertex.{w_of}
use Rattle.gl_records.specs.SetupRules.{viewport_entry}

-- along one axis: the middle of the viewport, moved by half its side times the clip coordinate over w, and
-- kept in the viewport
unfoldable pub along_axis : ℤ → ℤ → ℤ → ℤ → ℤ
along_axis start side clip w =
    clamp (pos 16 *ℤ start) (pos 16 *ℤ (start +ℤ side))
    (pos 16 *ℤ start +ℤ pos 8 *ℤ side +ℤ floor_quotient (pos 8 *ℤ side *ℤ clip) w)

-- where a vertex is in the window
unfoldable pub place_of : SetupRules → ClipVertex → Place
place_of rules v = record {
  x = along_axis (viewport_entry rules 0) (viewport_entry rules 2) (component v.clip 0) (w_of v);
  y = along_axis (viewport_entry rules 1) (viewport_entry rules 3) (component v.clip 1) (w_of v);
}

-- a place that some viewport has
pub record IsInViewport (place : Place) : Type 0 where
  pub x_from : negsuc 65535 ≤ℤ place.x  -- -65536
  pub x_to : place.x ≤ℤ pos 98304
  pub y_from : negsuc 65535 ≤ℤ place.y
  pub y_to : place.y ≤ℤ pos 98304

-- the clip coordinates z and w between the depths of the near and the far plane, as a depth of 24 bits
unfoldable pub depth_of : ℤ → ℤ → ℤ → ℤ → ℤ
depth_of near far z w =
    clamp (pos 0) (pos GREATEST_DEPTH)
    (floor_quotient (pos GREATEST_DEPTH *ℤ ((far -ℤ near) *ℤ z +ℤ (near +ℤ far) *ℤ w)) (pos 131072 *ℤ w))

-- 2^31 over w
unfoldable pub reciprocal_of : ℤ → ℕ
reciprocal_of w = unsigned_abs (clamp (pos 1) (pos (2 ^ 31)) (floor_quotient (pos (2 ^ 31)) w))

-- R G B A
unfoldable pub color_bytes : List Fx → List ℕ
color_bytes color = c8 (component color 0) ∷ c8 (component color 1) ∷ c8 (component color 2) ∷ c8 (component color 3) ∷ []

-- the raw numbers of one unit's texture coordinates s, t and q
unfoldable pub raw_coordinates : List Fx → List ℤ
raw_coordinates coordinates = component coordinates 0 ∷ component coordinates 1 ∷ component coordinates 2 ∷ []

-- a corner of a primitive that is seen from in front, or from behind
unfoldable pub corner_of : SetupRules → Bool → ClipVertex → VertexOut
corner_of rules behind v = record {
  x = (place_of rules v).x;
  y = (place_of rules v).y;
  z = depth_of (component rules.range 0) (component rules.range 1) (component v.clip 2) (w_of v);
  q = reciprocal_of (w_of v);
  rgba = color_bytes (if behind then v.back else v.front);
  tex = raw_coordinates (slice_index_or v.tex 0 []) ∷ raw_coordinates (slice_index_or v.tex 1 []) ∷ [];
  fog = v.fog.0;
}

-- a corner in the range of window coordinates, before polygon offset
pub record IsInWindow (v : VertexOut) : Type 0 where
  pub x_from : negsuc 65535 ≤ℤ v.x  -- -65536
  pub x_to : v.x ≤ℤ pos 98304
  pub y_from : negsuc 65535 ≤ℤ v.y
  pub y_to : v.y ≤ℤ pos 98304
  pub z_from : pos 0 ≤ℤ v.z
  pub z_to : v.z ≤ℤ pos GREATEST_DEPTH
  pub q_from : 1 ≤ v.q
  pub q_to : v.q ≤ 2 ^ 31
