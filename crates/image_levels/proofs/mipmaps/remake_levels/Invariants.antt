use Rattle.std.proofs.Common.{◌≡◌, length}
use Rattle.std.specs.Vec.Iter.{into_iter_items, into_iter_len}
use Rattle.gl_records.specs.declared.level.Level.{Level}
use Rattle.image_levels.proofs.Making.{IsMaking}
use Rattle.image_levels.proofs.mipmaps.remake_levels.Given as goal

abbrev pub invariant-loop-blank : goal.invariant-loop-blank
invariant-loop-blank l = record {
  making : (first : Level) × IsMaking first l.fn.levels l.levels l.before (into_iter_items l.blank-iterator);
  counts : into_iter_len l.blank-iterator ≡ length (into_iter_items l.blank-iterator);
}
