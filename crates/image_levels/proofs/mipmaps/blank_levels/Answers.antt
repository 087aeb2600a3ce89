use Rattle.std.proofs.Common.{◌≡◌, ◌+◌, ◌++◌, ◌∷◌, [], ◌∙◌, ℕ, List, map, ap, sym, arith}
use Rattle.std.specs.List.{range_with_len}
use Rattle.std.proofs.lemmas.List.FromFn.{map-range_with_len_more}
use Rattle.gl_records.specs.Complete.{halved}
use Rattle.gl_records.specs.declared.level.Level.{Level}
use Rattle.image_levels.specs.Mipmaps.{blank_level, blank_levels}
use Rattle.image_levels.proofs.mipmaps.blank_levels.Goals as goal

pub loop-before-preserved : goal.loop-before-preserved
loop-before-preserved c =
    let n = c.loop-before.before in
    let f = λ (k : ℕ). blank_level c.args.format (halved c.args.w k) (halved c.args.h k) in
    let next : 1 + n ≡ n + 1 = omega arith in
    let more = map-range_with_len_more f 1 n (n + 1) next in
    c.in_ok-push.ensures.items
    ∙ ap (λ (all : List Level). all ++ c.in_ok-blank_level.field-0 ∷ []) c.loop-before.invariant
    ∙ ap (λ (level : Level). map f (range_with_len 1 n) ++ level ∷ []) c.in_ok-blank_level.ensures
    ∙ sym more

pub returns : goal.returns
unfolding blank_levels
returns c =
    let last : c.loop-before.before ≡ c.last_number-last.result = omega (arith, c.loop-before-test.false, c.loop-before.auto.before-end) in
    c.loop-before.invariant
    ∙ ap (λ (n : ℕ). map (λ k. blank_level c.args.format (halved c.args.w k) (halved c.args.h k)) (range_with_len 1 n)) (last ∙ c.last_number-last.ensures.value)
