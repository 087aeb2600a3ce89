use Rattle.std.proofs.Common.{◌≡◌, ◌<◌, ◌≤◌, ℕ, length}
use Rattle.std.specs.Prelude.{slice_index}
use Rattle.std.specs.Int.{bit_at}
use Rattle.gl_records.specs.LevelOfDetail.{lambda}
use Rattle.texel_sampler.specs.Choosings.{choice_at, chosen_from}
use Rattle.texel_sampler.proofs.choice_row.choose_each.Given as goal

abbrev pub invariant-loop-i : goal.invariant-loop-i
invariant-loop-i g l = record {
  len : length l.choices ≡ 16;
  done : (k : ℕ) → l.first ≤ k → k < l.i → bit_at l.bits k ≡ 1
      → choice_at l.choices k ≡ chosen_from g.M.Minifying.levels l.choosing (lambda (slice_index l.rhos k));
}
