use Rattle.std.specs.Prelude.{◌≡◌, ◌<◌, ◌≤◌, ℕ, length}
use Rattle.fx_arith.specs.Number.{component, nearest_fixed}
use Rattle.plane_equations.specs.FixedPlanes.{fixed_at}
use Rattle.interpolation.proofs.coordinate_rows.fixed_row.Given as goal

abbrev pub invariant-loop-i : goal.invariant-loop-i
invariant-loop-i l = record {
  len : length l.values ≡ 17;
  done : (j : ℕ) → l.from ≤ j → j < l.i → component l.values j ≡ nearest_fixed (fixed_at l.plane j l.row);
}
