use Rattle.std.proofs.Common.{◌≡◌, ◌∙◌, rules, sym, ap, true}
use Rattle.gl_records.specs.Complete.{is_mipmap}
use Rattle.gl_records.specs.LevelChoice.{is_linear, minified}
use Rattle.texel_sampler.proofs.Asking.{equal-from, minified-one_level, minified-zero, same-level, same-linear, unasked, unequal-from, zero-from}
use Rattle.texel_sampler.proofs.choice.asks_for_rho.Goals as goal

pub returns-then-is_linear-clause-asked : goal.returns-then-is_linear-clause-asked
returns-then-is_linear-clause-asked c = λ _ same.
    unequal-from c.is_linear.result c.is_linear-2.result c.if-is_linear.true
    (c.is_linear.ensures ∙ same-linear c.args.sampler c.args.last same ∙ sym c.is_linear-2.ensures)

pub returns-then-last-gt0-clause-unasked : goal.returns-then-last-gt0-clause-unasked
returns-then-last-gt0-clause-unasked c = λ none scale.
    let filters : is_linear c.args.sampler.min ≡ is_linear c.args.sampler.mag =
    sym c.is_linear-2.ensures ∙ sym (equal-from c.is_linear.result c.is_linear-2.result c.if-is_linear.false) ∙ c.is_linear.ensures in
    unasked c.args.sampler c.args.last (λ detail. minified-one_level c.args.sampler.min (is_linear c.args.sampler.mag) c.args.last detail filters (sym c.is_mipmap.ensures ∙ none)) scale

pub returns-then-last-gt0-clause-asked : goal.returns-then-last-gt0-clause-asked
returns-then-last-gt0-clause-asked c = λ mipmap same.
    let reads : is_mipmap c.args.sampler.min ≡ true = sym c.is_mipmap.ensures ∙ (search rules) in
    same-level c.args.sampler c.args.last c.if-last-gt0.true reads same

pub returns-else-last-gt0-clause-unasked : goal.returns-else-last-gt0-clause-unasked
returns-else-last-gt0-clause-unasked c = λ none scale.
    let filters : is_linear c.args.sampler.min ≡ is_linear c.args.sampler.mag =
    sym c.is_linear-2.ensures ∙ sym (equal-from c.is_linear.result c.is_linear-2.result c.if-is_linear.false) ∙ c.is_linear.ensures in
    let last = zero-from c.args.last none in
    unasked c.args.sampler c.args.last
    (λ detail. ap (λ k. minified c.args.sampler.min k detail) last ∙ minified-zero c.args.sampler.min (is_linear c.args.sampler.mag) detail filters)
    scale
