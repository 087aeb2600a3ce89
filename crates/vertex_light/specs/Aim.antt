-- Where the light at a vertex comes from, in eye coordinates (OpenGL ES 1.1.12, 2.12.1).
use Rattle.std.specs.Prelude.{ℤ, pos, Bool, List, if◌then◌else◌}
use Rattle.std.specs.Ordering.{int_eq}
use Rattle.fx_arith.specs.declared.fx.Fx.{Fx}
use Rattle.fx_arith.specs.Number.{component, nearest_fixed}
use Rattle.fx_arith.specs.Vector.{len3, normalise3}
use Rattle.gl_records.specs.declared.light.Light.{Light}
use Rattle.vertex_light.specs.Components.{differences, first_three, over}

-- a light whose position has a w of 0 is directional
abbrev pub is_directional : Light → Bool
is_directional light = int_eq (component light.position 3) (pos 0)

-- what a light's position says for all vertices: the direction to it, of length 1, or its place
unfoldable pub aim : Light → List Fx
aim light =
    if is_directional light then normalise3 (first_three light.position) else over light.position (component light.position 3)

-- the direction from a place to the light: of length 1, or 0 0 0
unfoldable pub direction : Light → List Fx → List Fx
direction light eye = if is_directional light then aim light else normalise3 (differences (aim light) eye)

-- how far the place is from a light that has a place
unfoldable pub distance : Light → List Fx → ℤ
distance light eye = nearest_fixed (pos (len3 (differences (aim light) eye)))
