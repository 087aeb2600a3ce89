use Rattle.std.proofs.Common.{None}
use Rattle.vertex_light.proofs.Eight.{eight}
use Rattle.vertex_light.proofs.lights.prepared_lights.Goals as goal

pub returns-clause-lights : goal.returns-clause-lights
returns-clause-lights c =
    rw (
      c.prepared.ensures.light,
      c.prepared-2.ensures.light,
      c.prepared-3.ensures.light,
      c.prepared-4.ensures.light,
      c.prepared-5.ensures.light,
      c.prepared-6.ensures.light,
      c.prepared-7.ensures.light,
      c.prepared-8.ensures.light,
    )
    (eight c.args.lights.now None c.told-lights)
