use Rattle.std.proofs.Common.{◌≡◌, ◌<◌, ◌≤◌, ℕ, [], length, get_or}
use Rattle.std.specs.Int.{bit_at}
use Rattle.fx_arith.specs.Number.{component}
use Rattle.gl_records.specs.Sampling.{filtered}
use Rattle.texel_sampler.specs.Choosings.{choice_at}
use Rattle.texel_sampler.specs.Wraps.{wrapping}
use Rattle.texel_sampler.proofs.texel_row.filter_row.Given as goal

abbrev pub invariant-loop-i : goal.invariant-loop-i
invariant-loop-i g l = record {
  len : length l.texels ≡ 16;
  done : (k : ℕ) → l.first ≤ k → k < l.i → bit_at l.bits k ≡ 1
      → get_or l.texels k [] ≡ filtered l.set (wrapping g.S.Wrapping.wrap g.T.Wrapping.wrap) (choice_at l.choices k) (component l.s k) (component l.t k);
}
