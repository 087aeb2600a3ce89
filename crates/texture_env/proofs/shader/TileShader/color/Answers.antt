use Rattle.texture_env.specs.Shaders.{primitive_on}
use Rattle.texture_env.proofs.shader.TileShader.color.Goals as goal

pub colors-requires-clause-lines : goal.colors-requires-clause-lines
colors-requires-clause-lines c = c.forget.ensures (primitive_on c.args.self.now)
