use Rattle.std.proofs.Common.{refl}
use Rattle.matrix_stacks.specs.Projection.{frustum}
use Rattle.matrix_stacks.proofs.Entries.{fixed_is}
use Rattle.matrix_stacks.proofs.projections.frustum.Goals as goal

pub returns : goal.returns
unfolding frustum
returns c =
    rw (
      fixed_is c.scale-x.result _ c.scale-x.ensures,
      fixed_is c.scale-y.result _ c.scale-y.ensures,
      fixed_is c.centre-u.result _ c.centre-u.ensures,
      fixed_is c.centre-v.result _ c.centre-v.ensures,
      fixed_is c.centre_turned-z.result _ c.centre_turned-z.ensures,
      fixed_is c.depth_shift-w.result _ c.depth_shift-w.ensures,
    ) refl
