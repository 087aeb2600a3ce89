use Rattle.std.proofs.Common.{◌≡◌, ◌∙◌, true, false, sym, rules}
use Rattle.std.specs.Prelude.{Some}
use Rattle.fx_arith.specs.Number.{component}
use Rattle.gl_records.specs.Complete.{level_at}
use Rattle.texel_sampler.specs.Wraps.{wrapping}
use Rattle.texel_sampler.proofs.ByWraps.{filtered-first}
use Rattle.texel_sampler.proofs.texel_row.first_row.Goals as goal

pub returns-then-linear : goal.returns-then-linear
returns-then-linear g c i inside set =
    let there : level_at c.args.set.now 0 ≡ Some c.in-Some-Some.level = search rules in
    rw c.if-linear.true
    (c.level_row.ensures i inside set
    ∙ sym (filtered-first c.args.set.now (wrapping g.S.Wrapping.wrap g.T.Wrapping.wrap) true c.in-Some-Some.level (component c.args.s.now i) (component c.args.t.now i) there))

pub returns-else-linear : goal.returns-else-linear
returns-else-linear g c i inside set =
    let there : level_at c.args.set.now 0 ≡ Some c.in-Some-Some.level = search rules in
    rw c.if-linear.false
    (c.level_row-else-linear.ensures i inside set
    ∙ sym (filtered-first c.args.set.now (wrapping g.S.Wrapping.wrap g.T.Wrapping.wrap) false c.in-Some-Some.level (component c.args.s.now i) (component c.args.t.now i) there))
