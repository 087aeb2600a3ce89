use Rattle.whole_surface.specs.Asked.{AreAsked}
use Rattle.whole_surface.proofs.asking.asked_in.Given as goal

abbrev pub invariant-loop-i : goal.invariant-loop-i
invariant-loop-i g l = AreAsked (g.B.Brush.on l.brush) l.r g.B.Brush.keeps l.tile l.bits l.asked
