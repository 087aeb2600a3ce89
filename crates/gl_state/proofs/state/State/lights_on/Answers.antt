use Rattle.std.proofs.Common.{IfSome}
use Rattle.gl_records.specs.VertexState.{IsLightInRange}
use Rattle.gl_state.proofs.Eights.{each}
use Rattle.gl_state.proofs.state.State.lights_on.Goals as goal

pub returns-clause-ranges : goal.returns-clause-ranges
returns-clause-ranges c =
    each (λ light. IfSome light IsLightInRange) c.light_on.result c.light_on-2.result c.light_on-3.result c.light_on-4.result c.light_on-5.result c.light_on-6.result c.light_on-7.result c.light_on-8.result
    c.light_on.ensures.range
    c.light_on-2.ensures.range
    c.light_on-3.ensures.range
    c.light_on-4.ensures.range
    c.light_on-5.ensures.range
    c.light_on-6.ensures.range
    c.light_on-7.ensures.range
    c.light_on-8.ensures.range
