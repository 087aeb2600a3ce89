use Rattle.texture_env.proofs.shader.TileShader.colors_by.Goals as goal

pub new-at-requires-clause-here : goal.new-at-requires-clause-here
new-at-requires-clause-here c = rw (← c.self.view_is) at c.find.ensures.here

pub new-at-requires-clause-above : goal.new-at-requires-clause-above
new-at-requires-clause-above c = rw (← c.self.view_is) at c.find.ensures.above
