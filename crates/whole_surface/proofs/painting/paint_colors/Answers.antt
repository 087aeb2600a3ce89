use Rattle.std.proofs.Common.{◌≡◌, ◌≤◌, ◌+◌, ◌*◌, refl, arith}
use Rattle.std.proofs.lemmas.Nat.Bits.{bit_at-zero}
use Rattle.whole_surface.specs.Parts.{IsSpan}
use Rattle.whole_surface.specs.Subjects.{step_on}
use Rattle.whole_surface.proofs.RowPaints.{left_run}
use Rattle.whole_surface.proofs.Spans.{span_join}
use Rattle.whole_surface.proofs.painting.paint_colors.Goals as goal

pub returns-then-bits-eq0 : goal.returns-then-bits-eq0
returns-then-bits-eq0 g c =
    let none : c.args.bits ≡ 0 = omega arith in
    let start : 16 * c.args.r + 0 ≡ 16 * c.args.r = omega arith in
    rw start at (left_run c.requires.paints c.args.tile.now 0 16 (omega arith) (λ i from to. rw none (bit_at-zero i)) (λ k from to. refl))

pub returns : goal.returns
returns g c =
    let on = g.B.Brush.on c.args.brush.now in
    let row = c.args.r in
    let first = c.first_of.result in
    let end = c.end_of.result in
    let tile = c.paint_run.new.tile in
    let apart : ¬ (end ≤ first) = λ behind. absurd (omega (arith, c.first_of.ensures.set, c.end_of.ensures.none_behind first behind)) in
    let order : first ≤ end = omega (arith, apart) in
    let start : 16 * row + 0 ≡ 16 * row = omega arith in
    let low : IsSpan (step_on on) (16 * row) (16 * row + first) c.args.tile.now c.args.tile.now =
    rw start at (left_run c.requires.paints c.args.tile.now 0 first (omega (arith, c.first_of.ensures.within)) (λ i begun less. c.first_of.ensures.none_below i less) (λ k from to. refl)) in
    let high : IsSpan (step_on on) (16 * row + end) (16 * row + 16) tile tile =
    left_run c.requires.paints tile end 16 (omega arith) (λ i behind less. c.end_of.ensures.none_behind i behind) (λ k from to. c.paint_run.ensures.behind k from) in
    span_join (omega arith) (omega (arith, c.end_of.ensures.within)) (span_join (omega arith) (omega (arith, order)) low c.paint_run.ensures) high
