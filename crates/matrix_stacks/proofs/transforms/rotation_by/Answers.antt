use Rattle.std.proofs.Common.{refl}
use Rattle.matrix_stacks.specs.Transform.{rotation_by}
use Rattle.matrix_stacks.proofs.Entries.{fixed_is}
use Rattle.matrix_stacks.proofs.transforms.rotation_by.Goals as goal

pub returns : goal.returns
unfolding rotation_by
returns c =
    rw (
      fixed_is c.on_diagonal.result _ c.on_diagonal.ensures,
      fixed_is c.on_diagonal-2.result _ c.on_diagonal-2.ensures,
      fixed_is c.on_diagonal-3.result _ c.on_diagonal-3.ensures,
      fixed_is c.with_sine.result _ c.with_sine.ensures,
      fixed_is c.with_sine-2.result _ c.with_sine-2.ensures,
      fixed_is c.with_sine-3.result _ c.with_sine-3.ensures,
      fixed_is c.less_sine.result _ c.less_sine.ensures,
      fixed_is c.less_sine-2.result _ c.less_sine-2.ensures,
      fixed_is c.less_sine-3.result _ c.less_sine-3.ensures,
    ) refl
