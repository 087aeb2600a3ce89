use Rattle.std.specs.Prelude.{◌≡◌, ◌<◌, ◌≤◌, ℕ, ℤ, length, unsigned_abs}
use Rattle.fx_arith.specs.Number.{component, floor_div, nearest_fixed}
use Rattle.plane_equations.specs.Planes.{plane_at}
use Rattle.interpolation.specs.Rows.{AreDivisors}
use Rattle.interpolation.proofs.coordinate_rows.divided_row.Given as goal

abbrev pub invariant-loop-i : goal.invariant-loop-i
invariant-loop-i l = record {
  len : length l.values ≡ 17;
  done : (divisor : ℕ → ℤ) → AreDivisors divisor l.from l.to l.spots
      → (j : ℕ) → l.from ≤ j → j < l.i → component l.values j ≡ nearest_fixed (floor_div (plane_at l.plane j l.row) (unsigned_abs (divisor j)));
}
