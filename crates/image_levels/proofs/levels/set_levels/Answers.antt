use Rattle.std.proofs.Common.{◌≤◌, List, length, sym, ap, subst, ◌∙◌, arith}
use Rattle.std.specs.Vec.Iter.{into_iter_items}
use Rattle.gl_records.specs.declared.level.Level.{Level}
use Rattle.image_levels.proofs.Placing.{IsPlacing, placing-end, placing-inside, placing-more, placing-start}
use Rattle.image_levels.proofs.levels.set_levels.Goals as goal

pub loop-level-init : goal.loop-level-init
loop-level-init c =
    let gives = c.into_iter-level-iterator.ensures.into_iter_gives in
    let size = c.args.all.ok.0 in
    let few : length c.args.all.items ≤ 11 = omega (arith, size, c.requires) in
    record {
      placing = subst (λ (rest : List Level). IsPlacing c.args.all.items c.args.levels.now c.args.levels.now 0 rest) (sym gives.0) (placing-start c.args.all.items c.args.levels.now few c.told-levels);
      counts = gives.1 ∙ size ∙ ap length (sym gives.0);
    }

pub set_level-requires : goal.set_level-requires
set_level-requires c =
    let placing = subst (λ (xs : List Level). IsPlacing c.args.all.items c.args.levels.now c.loop-level.levels c.loop-level.k xs) c.in-Some.ensures.steps.0 c.loop-level.invariant.placing in
    let inside = placing-inside c.args.all.items c.args.levels.now c.loop-level.levels c.loop-level.k c.in-Some.level (into_iter_items c.next.new.self) placing in
    omega (arith, inside, placing.fits)

pub loop-level-preserved : goal.loop-level-preserved
loop-level-preserved c =
    let placing = subst (λ (xs : List Level). IsPlacing c.args.all.items c.args.levels.now c.loop-level.levels c.loop-level.k xs) c.in-Some.ensures.steps.0 c.loop-level.invariant.placing in
    let more = placing-more c.args.all.items c.args.levels.now c.loop-level.levels c.loop-level.k c.in-Some.level (into_iter_items c.next.new.self) placing in
    let steps = ap length c.in-Some.ensures.steps.0 in
    let gone = c.in-Some.ensures.steps.1 in
    let was = c.loop-level.invariant.counts in
    record {
      placing = rw c.set_level.ensures.value more;
      counts = omega (arith, steps, gone, was);
    }

pub returns : goal.returns
returns c =
    let none = sym c.loop-level.invariant.counts ∙ c.in-None.ensures.steps.0 in
    placing-end c.args.all.items c.args.levels.now c.loop-level.levels c.loop-level.k (into_iter_items c.loop-level.level-iterator) c.loop-level.invariant.placing none
