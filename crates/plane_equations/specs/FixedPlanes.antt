-- Quotients of linear functions by one number, in fixed point.
use Rattle.std.specs.Prelude.{◌≡◌, ℕ, ℤ, ◌≤◌, ◌*◌, ◌^◌}
use Rattle.fx_arith.specs.Number.{floor_div}
use Rattle.plane_equations.specs.declared.plane.Plane.{Plane}
use Rattle.plane_equations.specs.declared.fixed_plane.FixedPlane.{FixedPlane}
use Rattle.plane_equations.specs.Planes.{IsWithin, plane_at}

-- the value in column i and row j: the plane has 37 fraction bits, and what they hold is dropped
abbrev pub fixed_at : FixedPlane → ℕ → ℕ → ℤ
fixed_at f i j = floor_div (plane_at f.scaled i j) 137438953472

-- it is the quotient by d, rounded down, at each place of the tile
pub record IsQuotient (p : Plane) (d : ℕ) (f : FixedPlane) : Type 0 where
  pub value : (i j : ℕ) → i ≤ 16 → j ≤ 16 → fixed_at f i j ≡ floor_div (plane_at p i j) d

-- the quotients by d are within 2^23 at the four corners, and d is at most 2^31
pub record HasSmallQuotient (p : Plane) (d : ℕ) : Type 0 where
  pub divisor : d ≤ 2 ^ 31
  pub values : IsWithin (8388608 * d) p.origin p.right p.up
