use Rattle.std.proofs.Common.{◌≡◌, ◌<◌, ℕ, None, length}
use Rattle.std.specs.Prelude.{slice_index_or}
use Rattle.texture_store.proofs.copies.copy_levels.Given as goal

abbrev pub invariant-loop-k : goal.invariant-loop-k
invariant-loop-k l = record {
  copied : (j : ℕ) → j < l.k → slice_index_or l.into j None ≡ slice_index_or l.levels j None;
  size : length l.into ≡ 11;
}
