-- The cone of a spotlight (OpenGL ES 1.1.12, 2.12.1).
use Rattle.std.specs.Prelude.{ℕ, ℤ, pos, List, int_lt, if◌then◌else◌}
use Rattle.std.specs.Ordering.{int_eq}
use Rattle.fx_arith.specs.declared.fx.Fx.{Fx}
use Rattle.fx_arith.specs.Angle.{cosine}
use Rattle.fx_arith.specs.Number.{dot3, one}
use Rattle.fx_arith.specs.Power.{power}
use Rattle.fx_arith.specs.Vector.{normalise3}
use Rattle.gl_records.specs.declared.light.Light.{Light}
use Rattle.vertex_light.specs.Components.{reversed, whole}

-- what is left of light that leaves the axis of a cone by an angle with cosine c: nothing beyond the edge
unfoldable pub within_cone : ℤ → ℕ → ℤ → ℤ
within_cone edge exponent c = if int_lt c edge then pos 0 else power c exponent

-- the spot factor of a light, of the direction to it; it is 1 where the cutoff is 180 degrees
unfoldable pub spot : Light → List Fx → ℤ
spot light l =
    if int_eq light.cutoff.0 (pos 11796480) then one else
    within_cone (cosine light.cutoff.0) (whole light.exponent) (dot3 (reversed l) (normalise3 light.direction))
