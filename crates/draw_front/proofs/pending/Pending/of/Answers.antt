use Rattle.draw_front.proofs.pending.Pending.of.Goals as goal

pub returns-in-DrawArrays-clause-valid : goal.returns-in-DrawArrays-clause-valid
returns-in-DrawArrays-clause-valid c = λ allowed. c.pending_draw.ensures.valid c.args.size

pub returns-in-DrawElements-clause-valid : goal.returns-in-DrawElements-clause-valid
returns-in-DrawElements-clause-valid c = λ allowed. c.pending_draw-in-DrawElements.ensures.valid c.args.size
