-- What one light adds to the colour of a vertex, R G B (OpenGL ES 1.1.12, 2.12.1; the order of the sums and the rounding
-- are this project's own).
use Rattle.std.specs.Prelude.{ℤ, pos, List, int_lt, if◌then◌else◌}
use Rattle.fx_arith.specs.declared.fx.Fx.{Fx}
use Rattle.fx_arith.specs.Number.{dot3, mul}
use Rattle.fx_arith.specs.Power.{power}
use Rattle.gl_records.specs.declared.light.Light.{Light}
use Rattle.gl_records.specs.declared.material.Material.{Material}
use Rattle.vertex_light.specs.declared.reflectance.Reflectance.{Reflectance}
use Rattle.vertex_light.specs.Aim.{direction}
use Rattle.vertex_light.specs.Attenuation.{attenuation}
use Rattle.vertex_light.specs.Components.{at_least_zero, products, scaled, sums, whole}
use Rattle.vertex_light.specs.Cone.{spot}
use Rattle.vertex_light.specs.Half.{half}

-- what a material reflects of a light: of its ambient, its diffuse and its specular colour, the last by this exponent
unfoldable pub reflectance : Material → Light → Reflectance
reflectance material light = record {
  ambient = products material.ambient light.ambient;
  diffuse = products material.diffuse light.diffuse;
  specular = products material.specular light.specular;
  shininess = whole material.shininess;
}

-- the ambient and the diffuse part, of the inner product of the normal and the direction to the light
abbrev pub matte : Reflectance → ℤ → List Fx
matte r facing = sums r.ambient (scaled r.diffuse (at_least_zero facing))

-- the specular part, of the normal and the half vector
unfoldable pub specular : Reflectance → List Fx → List Fx → List Fx
specular r normal h = scaled r.specular (power (at_least_zero (dot3 normal h)) r.shininess)

-- the three parts; the specular one is there only where the light is in front
unfoldable pub reflected : Reflectance → List Fx → List Fx → List Fx → List Fx
reflected r normal l h =
    let facing = dot3 normal l in
    if int_lt (pos 0) facing then sums (matte r facing) (specular r normal h) else matte r facing

-- how much of a light arrives at a place in eye coordinates
unfoldable pub strength : Light → List Fx → ℤ
strength light eye = mul (attenuation light eye) (spot light (direction light eye))

-- what a light adds
unfoldable pub term : Material → Light → List Fx → List Fx → List Fx
term material light normal eye =
    let l = direction light eye in
    scaled (reflected (reflectance material light) normal l (half l)) (strength light eye)
