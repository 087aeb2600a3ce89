-- How large a linear function of the place within a tile can be.
use Rattle.std.specs.Prelude.{ℕ, ℤ, pos, ◌+ℤ◌, ◌*ℤ◌, ◌≤◌, unsigned_abs, Bool, ◌&&◌, nat_le}

-- its values at the four corners, 16 columns and 16 rows apart, are at most this far from 0
pub record IsWithin (bound : ℕ) (origin right up : ℤ) : Type 0 where
  pub first : unsigned_abs origin ≤ bound
  pub along : unsigned_abs (origin +ℤ pos 16 *ℤ right) ≤ bound
  pub above : unsigned_abs (origin +ℤ pos 16 *ℤ up) ≤ bound
  pub across : unsigned_abs (origin +ℤ pos 16 *ℤ right +ℤ pos 16 *ℤ up) ≤ bound

-- whether they are, of a bound of 2^61
abbrev pub is_narrow : ℤ → Bool
is_narrow z = nat_le (unsigned_abs z) 2305843009213693952

abbrev pub is_within : (origin right up : ℤ) → Bool
is_within origin right up = is_narrow origin && is_narrow (origin +ℤ pos 16 *ℤ right) && is_narrow (origin +ℤ pos 16 *ℤ up)
    && is_narrow (origin +ℤ pos 16 *ℤ right +ℤ pos 16 *ℤ up)
