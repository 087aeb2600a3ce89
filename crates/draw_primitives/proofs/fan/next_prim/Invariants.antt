use Rattle.std.proofs.Common.{◌≡◌}
use Rattle.draw_primitives.specs.Fan.{fan_from, set_up}
use Rattle.draw_primitives.proofs.fan.next_prim.Given as goal

abbrev pub invariant-loop-i : goal.invariant-loop-i
invariant-loop-i l = set_up l.rules l.kind l.size (fan_from l.polygon l.fn.next) ≡ set_up l.rules l.kind l.size (fan_from l.polygon l.i)
