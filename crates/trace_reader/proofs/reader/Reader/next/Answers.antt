use Rattle.std.proofs.Common.{rules}
use Rattle.trace_reader.proofs.Tails.{moves_over}
use Rattle.trace_reader.proofs.reader.Reader.next.Goals as goal

pub returns-then-is_end-clause-moves : goal.returns-then-is_end-clause-moves
returns-then-is_end-clause-moves g c = λ reading. moves_over _ _ c.args.self.now.offset c.self.inside.offset _ c.in-Ok.rec c.in-Ok.length (search rules) (search rules) c.in-Ok.ensures.taken

pub returns-else-is_end-clause-moves : goal.returns-else-is_end-clause-moves
returns-else-is_end-clause-moves g c = λ reading. moves_over _ _ c.args.self.now.offset c.self.inside.offset _ c.in-Ok.rec c.in-Ok.length (search rules) (search rules) c.in-Ok.ensures.taken
