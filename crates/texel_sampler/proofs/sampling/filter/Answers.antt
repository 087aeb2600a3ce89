use Rattle.std.proofs.Common.{◌∙◌}
use Rattle.gl_tokens.specs.declared.wrap.Wrap.TheVariants.{ClampToEdge, Repeat}
use Rattle.texel_sampler.proofs.ByWraps.{filtered-wraps}
use Rattle.texel_sampler.proofs.sampling.filter.Goals as goal

pub returns-in-Repeat-Repeat : goal.returns-in-Repeat-Repeat
returns-in-Repeat-Repeat c =
    c.filter_by.ensures ∙ filtered-wraps c.args.set.now c.args.sampler c.args.choice c.args.s.0 c.args.t.0 Repeat Repeat c.in-Repeat-Repeat.is-0 c.in-Repeat-Repeat.is-1

pub returns-in-Repeat-ClampToEdge : goal.returns-in-Repeat-ClampToEdge
returns-in-Repeat-ClampToEdge c =
    c.filter_by-in-Repeat-ClampToEdge.ensures
    ∙ filtered-wraps c.args.set.now c.args.sampler c.args.choice c.args.s.0 c.args.t.0 Repeat ClampToEdge c.in-Repeat-ClampToEdge.is-0 c.in-Repeat-ClampToEdge.is-1

pub returns-in-ClampToEdge-Repeat : goal.returns-in-ClampToEdge-Repeat
returns-in-ClampToEdge-Repeat c =
    c.filter_by-in-ClampToEdge-Repeat.ensures
    ∙ filtered-wraps c.args.set.now c.args.sampler c.args.choice c.args.s.0 c.args.t.0 ClampToEdge Repeat c.in-ClampToEdge-Repeat.is-0 c.in-ClampToEdge-Repeat.is-1

pub returns-in-ClampToEdge-ClampToEdge : goal.returns-in-ClampToEdge-ClampToEdge
returns-in-ClampToEdge-ClampToEdge c =
    c.filter_by-in-ClampToEdge-ClampToEdge.ensures
    ∙ filtered-wraps c.args.set.now c.args.sampler c.args.choice c.args.s.0 c.args.t.0 ClampToEdge ClampToEdge c.in-ClampToEdge-ClampToEdge.is-0 c.in-ClampToEdge-ClampToEdge.is-1
