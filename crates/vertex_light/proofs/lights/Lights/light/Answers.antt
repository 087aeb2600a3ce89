use Rattle.std.proofs.Common.{◌∙◌}
use Rattle.vertex_light.proofs.Sums.{lit_is}
use Rattle.vertex_light.proofs.lights.Lights.light.Goals as goal

pub returns : goal.returns
returns c =
    rw (← c.self.view_is)
    (c.shown.ensures
    ∙ lit_is _ _ _ _ _ _ _ _ c.self.invariant.lights c.scene_at-scene.ensures c.light_sum-sum.ensures c.alpha_at.ensures)
