use Rattle.std.proofs.Common.{◌∙◌, ap}
use Rattle.std.proofs.lemmas.Result.{err_from_is_err_and}
use Rattle.output_format.proofs.Growth.{front_none, front_whole}
use Rattle.draw_front.specs.Collecting.{Collecting, asked_of}
use Rattle.immediate_renderer.specs.Settled.{is_ended}
use Rattle.immediate_renderer.proofs.Chunks.{presented-chunk}
use Rattle.immediate_renderer.proofs.Steps.{ended-answer}
use Rattle.immediate_renderer.proofs.player.Player.run.Goals as goal

pub returns-in_err-step-clause-chunk : goal.returns-in_err-step-clause-chunk
returns-in_err-step-clause-chunk g c =
    let p = err_from_is_err_and c.from_residual.result c.from_residual.ensures.1 in
    rw p.1 (front_none _ _)

pub returns-in_err-step-clause-lines : goal.returns-in_err-step-clause-lines
returns-in_err-step-clause-lines g c =
    let p = err_from_is_err_and c.from_residual.result c.from_residual.ensures.1 in
    rw p.1 (front_none _ _)

pub returns-in_err-present-clause-chunk : goal.returns-in_err-present-clause-chunk
returns-in_err-present-clause-chunk g c =
    let now = c.args.self.now in
    let front = rw (ap (λ (front : Collecting). front.size) c.in_ok-step.ensures.asked, c.index-index.ensures, c.in_ok-step.ensures.answer, presented-chunk now.front.size now.surface now.front.index c.args.rec (asked_of now.front c.args.rec).error) at c.in_err-present.ensures.chunk in
    let p = err_from_is_err_and c.from_residual-in_err-present.result c.from_residual-in_err-present.ensures.1 in
    rw p.1 front

pub returns-in_err-present-clause-lines : goal.returns-in_err-present-clause-lines
returns-in_err-present-clause-lines g c =
    let p = err_from_is_err_and c.from_residual-in_err-present.result c.from_residual-in_err-present.ensures.1 in
    rw p.1 (front_none _ _)

pub returns-in_err-draw_items-clause-lines : goal.returns-in_err-draw_items-clause-lines
returns-in_err-draw_items-clause-lines g c =
    let p = err_from_is_err_and c.from_residual-in_err-draw_items.result c.from_residual-in_err-draw_items.ensures.1 in
    rw p.1 (front_none _ _)

pub returns-clause-ended : goal.returns-clause-ended
returns-clause-ended g c = ap is_ended c.in_ok-step.ensures.answer ∙ ended-answer c.args.self.now.front c.args.rec

pub returns-in_err-draw_items-clause-chunk : goal.returns-in_err-draw_items-clause-chunk
returns-in_err-draw_items-clause-chunk g c =
    let now = c.args.self.now in
    let whole = rw (ap (λ (front : Collecting). front.size) c.in_ok-step.ensures.asked, c.index-index.ensures, c.in_ok-step.ensures.answer, presented-chunk now.front.size now.surface now.front.index c.args.rec (asked_of now.front c.args.rec).error) at c.in_ok-present.ensures.chunk in
    let p = err_from_is_err_and c.from_residual-in_err-draw_items.result c.from_residual-in_err-draw_items.ensures.1 in
    rw p.1 (front_whole _ _ _ whole)

pub returns-in_err-put_lines-clause-chunk : goal.returns-in_err-put_lines-clause-chunk
returns-in_err-put_lines-clause-chunk g c =
    let now = c.args.self.now in
    let whole = rw (ap (λ (front : Collecting). front.size) c.in_ok-step.ensures.asked, c.index-index.ensures, c.in_ok-step.ensures.answer, presented-chunk now.front.size now.surface now.front.index c.args.rec (asked_of now.front c.args.rec).error) at c.in_ok-present.ensures.chunk in
    let p = err_from_is_err_and c.from_residual-in_err-put_lines.result c.from_residual-in_err-put_lines.ensures.1 in
    rw p.1 (front_whole _ _ _ whole)

pub returns-clause-chunk : goal.returns-clause-chunk
returns-clause-chunk g c =
    let now = c.args.self.now in
    rw (ap (λ (front : Collecting). front.size) c.in_ok-step.ensures.asked, c.index-index.ensures, c.in_ok-step.ensures.answer, presented-chunk now.front.size now.surface now.front.index c.args.rec (asked_of now.front c.args.rec).error) at c.in_ok-present.ensures.chunk
