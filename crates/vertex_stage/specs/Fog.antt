-- The fog factor of a vertex (OpenGL ES 1.1.12, 3.8). The distance is that along the eye's z axis; the factor is clipped and
-- interpolated with the vertex, and not the distance (this project's profile).
use Rattle.std.specs.Prelude.{ℤ, pos, ◌-ℤ◌, List, Option, Some, None, unsigned_abs, if◌then◌else◌}
use Rattle.std.specs.Ordering.{int_eq}
use Rattle.fx_arith.specs.declared.fx.Fx.{Fx}
use Rattle.fx_arith.specs.Number.{component, div, fixed, in_unit, mul, nearest_fixed, one, sub}
use Rattle.fx_arith.specs.Power.{exp_neg}
use Rattle.gl_records.specs.declared.fog_rule.FogRule.{FogRule}
use Rattle.gl_tokens.specs.declared.fog_mode.FogMode.{FogMode}
use Rattle.gl_tokens.specs.declared.fog_mode.FogMode.TheVariants.{Exp, Exp2, Linear}

-- how far a place with this z lies before the eye or behind it
unfoldable pub distance : ℤ → ℤ
distance z = nearest_fixed (pos (unsigned_abs z))

-- (end - c) / (end - start), and 1 where the ends are the same
unfoldable pub linear : ℤ → ℤ → ℤ → ℤ
linear start end c = if int_eq start end then one else div (sub end c) (end -ℤ start)

-- how thick the fog is at a distance
unfoldable pub thickness : ℤ → ℤ → ℤ
thickness density c = mul density c

-- the factor by LINEAR, and e to the power of -y and of -y y, where y is the thickness
abbrev pub by_mode : FogMode → FogRule → ℤ → ℤ
by_mode Linear rule c = linear rule.start.0 rule.end.0 c
by_mode Exp rule c = pos (exp_neg (thickness rule.density.0 c))
by_mode Exp2 rule c = pos (exp_neg (thickness (thickness rule.density.0 c) (thickness rule.density.0 c)))

-- the factor before it is clamped
unfoldable pub factor : FogRule → ℤ → ℤ
factor rule c = by_mode rule.mode rule c

-- the factor at a place in eye coordinates, 0 to 1; without fog it is 1
unfoldable pub fog_factor : Option FogRule → List Fx → Fx
fog_factor None eye = fixed one
fog_factor (Some rule) eye = in_unit (fixed (factor rule (distance (component eye 2))))
