use Rattle.std.proofs.Common.{length}
use Rattle.trace_cases.proofs.print.print_frames.Given as goal

abbrev pub decreases-loop-frame : goal.decreases-loop-frame
decreases-loop-frame g l = length l.rest
