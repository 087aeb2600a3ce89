use Rattle.std.proofs.Common.{◌≡◌, ◌<◌, ◌≤◌, ◌-◌, ℕ, true, false}
use Rattle.gl_records.specs.ClipVertex.{vertex}
use Rattle.clipper.specs.Planes.{is_inside}
use Rattle.clipper.proofs.polygon.run_start.Given as goal

abbrev pub invariant-loop-i : goal.invariant-loop-i
invariant-loop-i l = record {
  within : l.start ≤ l.i;
  inner : (k : ℕ) → l.start ≤ k → k < l.i → is_inside l.plane (vertex l.corners k) ≡ true;
  before : 0 < l.start → is_inside l.plane (vertex l.corners (l.start - 1)) ≡ false;
}
