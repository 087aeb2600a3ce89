-- Linear functions of the place within a tile, and which of them are above 0 or constant.
use Rattle.std.specs.Prelude.{◌≡◌, ℕ, ℤ, pos, ◌+ℤ◌, ◌*ℤ◌, Bool, ◌&&◌, int_lt}
use Rattle.plane_equations.specs.declared.plane.Plane.{Plane}
pub use Rattle.plane_equations.specs.Within.{IsWithin}

-- the value in column i and row j
abbrev pub plane_at : Plane → ℕ → ℕ → ℤ
plane_at p i j = p.origin +ℤ (pos i *ℤ p.right) +ℤ (pos j *ℤ p.up)

-- it is above 0 at the four corners
abbrev pub is_positive : Plane → Bool
is_positive p = int_lt (pos 0) (plane_at p 0 0) && int_lt (pos 0) (plane_at p 16 0)
    && int_lt (pos 0) (plane_at p 0 16) && int_lt (pos 0) (plane_at p 16 16)

-- this is the function with these numbers
pub record IsPlane (at_first per_column per_row : ℤ) (p : Plane) : Type 0 where
  pub origin : p.origin ≡ at_first
  pub right : p.right ≡ per_column
  pub up : p.up ≡ per_row
