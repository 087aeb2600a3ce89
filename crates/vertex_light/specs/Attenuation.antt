-- How light grows weaker with the distance (OpenGL ES 1.1.12, 2.12.1).
use Rattle.std.specs.Prelude.{ℤ, pos, List, int_lt, if◌then◌else◌}
use Rattle.fx_arith.specs.declared.fx.Fx.{Fx}
use Rattle.fx_arith.specs.Number.{add, component, div, mul, one}
use Rattle.gl_records.specs.declared.light.Light.{Light}
use Rattle.vertex_light.specs.Aim.{distance, is_directional}

-- k0 + k1 d + k2 d d, of the constant, the linear and the quadratic attenuation and a distance
unfoldable pub growth : List Fx → ℤ → ℤ
growth k d = add (add (component k 0) (mul (component k 1) d)) (mul (component k 2) (mul d d))

-- the number of which it is one part; 1 where that isn't above 0
unfoldable pub part : ℤ → ℤ
part growth = if int_lt (pos 0) growth then div one growth else one

-- the attenuation of a light at a place in eye coordinates; a directional light grows no weaker
unfoldable pub attenuation : Light → List Fx → ℤ
attenuation light eye = if is_directional light then one else part (growth light.attenuation (distance light eye))
