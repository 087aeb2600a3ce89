use Rattle.std.proofs.Common.{◌≡◌}
use Rattle.fx_arith.specs.Power.{power}
use Rattle.fx_arith.proofs.power.powi.Given as goal

abbrev pub invariant-loop : goal.invariant-loop
invariant-loop l = l.power.0 ≡ power l.b.0 l.counter
