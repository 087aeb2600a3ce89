use Rattle.std.proofs.Common.{◌≡◌, map}
use Rattle.std.specs.List.{range_with_len}
use Rattle.gl_records.specs.Complete.{halved}
use Rattle.image_levels.specs.Mipmaps.{blank_level}
use Rattle.image_levels.proofs.mipmaps.blank_levels.Given as goal

abbrev pub invariant-loop-before : goal.invariant-loop-before
invariant-loop-before l = l.all.items ≡ map (λ k. blank_level l.format (halved l.w k) (halved l.h k)) (range_with_len 1 l.before)
