use Rattle.std.proofs.Common.{◌≡◌, ◌∙◌, ◌+◌, ℕ, length, ap, rules}
use Rattle.gl_records.specs.Complete.{level_at}
use Rattle.gl_records.specs.Sampling.{filtered, level_color}
use Rattle.texel_sampler.specs.Wraps.{wrapping}
use Rattle.texel_sampler.proofs.Blends.{first_alone, two_blended}
use Rattle.texel_sampler.proofs.sampling.filter_by.Goals as goal

pub returns-then-choice-eq0 : goal.returns-then-choice-eq0
unfolding filtered
returns-then-choice-eq0 g c =
    let color = λ (k : ℕ). level_color c.args.choice.linear (wrapping g.S.Wrapping.wrap g.T.Wrapping.wrap) (level_at c.args.set.now k) c.args.s.0 c.args.t.0 in
    let level = c.args.choice.level in
    let four : length c.level_color-first.result ≡ 4 = search rules in
    let first : c.level_color-first.result ≡ color level = c.level_color-first.ensures ∙ ap color c.from-level.ensures in
    first_alone c.args.choice.weight c.level_color-first.result (color level) (color (level + 1)) c.if-choice-eq0.true four first

pub returns-else-choice-eq0 : goal.returns-else-choice-eq0
unfolding filtered
returns-else-choice-eq0 g c =
    let color = λ (k : ℕ). level_color c.args.choice.linear (wrapping g.S.Wrapping.wrap g.T.Wrapping.wrap) (level_at c.args.set.now k) c.args.s.0 c.args.t.0 in
    let level = c.args.choice.level in
    let first : c.level_color-first.result ≡ color level = c.level_color-first.ensures ∙ ap color c.from-level.ensures in
    let second : c.level_color.result ≡ color (level + 1) = c.level_color.ensures ∙ ap (λ k. color (k + 1)) c.from-level.ensures in
    c.blended.ensures
    ∙ two_blended c.args.choice.weight c.level_color-first.result c.level_color.result (color level) (color (level + 1)) first second
