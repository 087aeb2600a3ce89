use Rattle.std.proofs.Common.{◌≡◌, ◌<◌, ℕ, false}
use Rattle.clipper.specs.Polygon.{goes_out}
use Rattle.clipper.proofs.polygon.first_out.Given as goal

abbrev pub invariant-loop-i : goal.invariant-loop-i
invariant-loop-i l = (k : ℕ) → k < l.i → goes_out l.plane l.corners k ≡ false
