use Rattle.std.proofs.Common.{◌≡◌, take, true}
use Rattle.std.specs.List.{list_all, range_with_len}
use Rattle.gl_records.specs.Complete.{is_continued, last_of, level_at}
use Rattle.gl_records.proofs.complete.has_chain.Given as goal

abbrev pub invariant-loop-k : goal.invariant-loop-k
invariant-loop-k l = list_all (λ k. is_continued l.first k (level_at l.set k)) (take l.k (range_with_len 1 (last_of l.first))) ≡ true
