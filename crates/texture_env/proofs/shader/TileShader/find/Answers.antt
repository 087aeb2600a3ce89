use Rattle.texture_env.proofs.shader.TileShader.find.Goals as goal

pub find-requires-clause-line : goal.find-requires-clause-line
find-requires-clause-line c = rw (← c.self.view_is) at c.requires.here

pub find-requires-then-self-clause-line : goal.find-requires-then-self-clause-line
find-requires-then-self-clause-line c = rw (← c.self.view_is) at c.requires.above

pub find-requires-else-self-clause-line : goal.find-requires-else-self-clause-line
find-requires-else-self-clause-line c = rw (← c.self.view_is) at c.requires.here
