use Rattle.immediate_renderer.proofs.player.Player.present.Goals as goal

pub returns-in-Present-clause-chunk : goal.returns-in-Present-clause-chunk
returns-in-Present-clause-chunk g c = rw c.in-Present.is (rw c.size.ensures at c.put_frame.ensures.frame)
