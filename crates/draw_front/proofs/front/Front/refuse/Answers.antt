use Rattle.std.proofs.Common.{◌≡◌, ◌∙◌, ◌++◌, ap, rules}
use Rattle.output_format.specs.Log.{raise_line}
use Rattle.draw_front.specs.Call.{with_error}
use Rattle.draw_front.specs.Collecting.{Collecting, with_refusal}
use Rattle.draw_front.proofs.Raised.{refused-view}
use Rattle.draw_front.proofs.front.Front.refuse.Goals as goal

pub returns-clause-line : goal.returns-clause-line
returns-clause-line c =
    let inside = c.self.inside in
    let raised : c.raise.new.self ≡ with_error inside.context c.args.error = search rules in
    let lines : c.append_raise.new.lines.items ≡ inside.lines.items ++ raise_line inside.index c.args.error = search rules in
    refused-view inside.size inside.context c.raise.new.self inside.pending inside.lines.items c.append_raise.new.lines.items inside.line_count inside.index inside.out_of_memory c.args.error raised lines
    ∙ ap (λ (now : Collecting). with_refusal now c.args.error) c.self.view_is
