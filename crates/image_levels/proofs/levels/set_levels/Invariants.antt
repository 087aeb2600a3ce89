use Rattle.std.proofs.Common.{◌≡◌, length}
use Rattle.std.specs.Vec.Iter.{into_iter_items, into_iter_len}
use Rattle.image_levels.proofs.Placing.{IsPlacing}
use Rattle.image_levels.proofs.levels.set_levels.Given as goal

abbrev pub invariant-loop-level : goal.invariant-loop-level
invariant-loop-level l = record {
  placing : IsPlacing l.fn.all.items l.fn.levels l.levels l.k (into_iter_items l.level-iterator);
  counts : into_iter_len l.level-iterator ≡ length (into_iter_items l.level-iterator);
}
