use Rattle.std.proofs.Common.{List, None, length, get_or, refl, sym, ap, subst, ◌∙◌, arith}
use Rattle.std.specs.Vec.Iter.{into_iter_items}
use Rattle.gl_records.specs.declared.level.Level.{Level}
use Rattle.image_levels.proofs.Making.{IsMaking, making-begin, making-end, making-more, making-room, making-source}
use Rattle.image_levels.proofs.mipmaps.remake_levels.Goals as goal

pub loop-blank-init : goal.loop-blank-init
loop-blank-init c =
    let gives = c.into_iter-blank-iterator.ensures.into_iter_gives in
    record {
      making = making-begin (get_or c.args.levels.now 0 None) c.args.levels.now (into_iter_items c.into_iter-blank-iterator.result) refl c.told-levels (rw gives.0 c.requires);
      counts = gives.1 ∙ c.args.blanks.ok.0 ∙ ap length (sym gives.0);
    }

pub make_level-requires-clause-inside : goal.make_level-requires-clause-inside
make_level-requires-clause-inside c =
    let first = c.loop-blank.invariant.making.0 in
    let n = c.loop-blank.before in
    let making = subst (λ (xs : List Level). IsMaking first c.args.levels.now c.loop-blank.levels n xs) c.in-Some.ensures.steps.0 c.loop-blank.invariant.making.1 in
    making-room first c.args.levels.now c.loop-blank.levels n c.in-Some.blank (into_iter_items c.next.new.self) making

pub make_level-requires-clause-source : goal.make_level-requires-clause-source
make_level-requires-clause-source c =
    let first = c.loop-blank.invariant.making.0 in
    let n = c.loop-blank.before in
    let making = subst (λ (xs : List Level). IsMaking first c.args.levels.now c.loop-blank.levels n xs) c.in-Some.ensures.steps.0 c.loop-blank.invariant.making.1 in
    making-source first c.args.levels.now c.loop-blank.levels n c.in-Some.blank (into_iter_items c.next.new.self) making

pub loop-blank-preserved : goal.loop-blank-preserved
loop-blank-preserved c =
    let first = c.loop-blank.invariant.making.0 in
    let n = c.loop-blank.before in
    let rest = into_iter_items c.next.new.self in
    let making = subst (λ (xs : List Level). IsMaking first c.args.levels.now c.loop-blank.levels n xs) c.in-Some.ensures.steps.0 c.loop-blank.invariant.making.1 in
    let more = making-more first c.args.levels.now c.loop-blank.levels n c.in-Some.blank rest making in
    let steps = ap length c.in-Some.ensures.steps.0 in
    let gone = c.in-Some.ensures.steps.1 in
    let was = c.loop-blank.invariant.counts in
    record {
      making = (first, rw c.make_level.ensures more);
      counts = omega (arith, steps, gone, was);
    }

pub returns : goal.returns
returns c =
    let first = c.loop-blank.invariant.making.0 in
    let making = c.loop-blank.invariant.making.1 in
    let none = sym c.loop-blank.invariant.counts ∙ c.in-None.ensures.steps.0 in
    rw making.at_first (making-end first c.args.levels.now c.loop-blank.levels c.loop-blank.before (into_iter_items c.loop-blank.blank-iterator) making none)
