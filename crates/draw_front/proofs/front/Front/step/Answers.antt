use Rattle.std.proofs.Common.{◌≡◌, ◌≤◌, ◌∙◌, ◌+◌, ℕ, List, Some, None, true, sym, ap, arith}
use Rattle.draw_front.specs.Call.{commanded}
use Rattle.draw_front.specs.Collecting.{Collecting, stepped, with_refusal}
use Rattle.draw_front.specs.Context.{Context}
use Rattle.draw_front.specs.Pending.{items_left}
use Rattle.draw_front.proofs.Refusals.{asked-error, asked-is, line-counted, no-line, refused-line, stepped-refused, OnErr-map, OnOk-map}
use Rattle.draw_front.proofs.Stepped.{left-of, left-unversioned, pending-later, stepped-ran}
use Rattle.draw_front.proofs.front.Front.step.Goals as goal

pub invariant_of-self-in-None : goal.invariant_of-self-in-None
invariant_of-self-in-None c =
    let inside = c.self.inside in
    let none : (commanded inside.context c.args.rec).1 ≡ None = sym (ap (λ answer. answer.1) c.in-Ok-run.ensures.run) ∙ c.in-None.is in
    let most = line-counted inside.context inside.index c.args.rec in
    let before : inside.line_count ≤ inside.index = c.self.invariant.2 in
    let counted : inside.line_count + c.in-Ok.made ≤ c.index_after-index.result = rw (c.in-Ok.ensures.count, c.index_after-index.ensures.value) (omega (arith, most, before)) in
    let later = c.run.new.self in
    let run : (later, None) ≡ commanded inside.context c.args.rec = sym (ap (λ error. (later, error)) c.in-None.is) ∙ c.in-Ok-run.ensures.run in (
      c.self.invariant.0,
      pending-later inside.size inside.context later c.args.rec c.of-pending.result run c.of-pending.ensures.value (c.of-pending.ensures.valid none),
      counted,
    )

pub returns-in-Some-clause-answer : goal.returns-in-Some-clause-answer
returns-in-Some-clause-answer c =
    let inside = c.self.inside in
    let error = c.in-Some.error in
    let is : (commanded inside.context c.args.rec).1 ≡ Some error = sym (ap (λ answer. answer.1) c.in-Ok-run.ensures.run) ∙ c.in-Some.is in
    let now_is : (commanded c.args.self.now.context c.args.rec).1 ≡ Some error = rw (← c.self.view_is) is in
    rw (asked-is c.args.self.now c.args.rec error now_is) c.refuse.ensures.quiet

pub returns-in-None-clause-asked : goal.returns-in-None-clause-asked
returns-in-None-clause-asked c =
    let inside = c.self.inside in
    let later = c.run.new.self in
    let run : (later, None) ≡ commanded inside.context c.args.rec = sym (ap (λ error. (later, error)) c.in-None.is) ∙ c.in-Ok-run.ensures.run in
    let left = sym (left-unversioned inside.size later c.of-pending.result) ∙ ap (items_left inside.size later) c.of-pending.ensures.value ∙ left-of inside.size inside.context later c.args.rec run in
    let before : Collecting = record {
      size = inside.size;
      context = inside.context;
      left = items_left inside.size inside.context inside.pending;
      lines = inside.lines.items;
      line_count = inside.line_count;
      index = inside.index;
      out_of_memory = inside.out_of_memory;
    } in
    stepped-ran before c.args.rec later _ _ _ _ run left c.in-Ok.ensures.line c.in-Ok.ensures.count c.index_after-index.ensures.value
    ∙ ap (λ (now : Collecting). stepped now c.args.rec) c.self.view_is

pub returns-in-Some-clause-asked : goal.returns-in-Some-clause-asked
returns-in-Some-clause-asked c =
    let inside = c.self.inside in
    let error = c.in-Some.error in
    let unchanged : c.run.new.self ≡ inside.context = rw c.in-Some.is at c.in-Ok-run.ensures.unchanged in
    let is : (commanded inside.context c.args.rec).1 ≡ Some error = sym (ap (λ answer. answer.1) c.in-Ok-run.ensures.run) ∙ c.in-Some.is in
    let lines = no-line inside.lines.items _ _ c.in-Ok.ensures.line (refused-line inside.context inside.index c.args.rec error is) in
    let front : Context → List ℕ → Collecting = λ context lines. record {
      size = inside.size;
      context = context;
      left = items_left inside.size context inside.pending;
      lines = lines;
      line_count = inside.line_count;
      index = inside.index;
      out_of_memory = inside.out_of_memory;
    } in
    let before : front c.run.new.self c.append_line.new.lines.items ≡ c.args.self.now =
    ap (λ (context : Context). front context c.append_line.new.lines.items) unchanged ∙ ap (front inside.context) lines ∙ c.self.view_is in
    let now_is : (commanded c.args.self.now.context c.args.rec).1 ≡ Some error = rw (← c.self.view_is) is in
    let same : (commanded inside.context c.args.rec).0 ≡ inside.context = sym (ap (λ answer. answer.0) c.in-Ok-run.ensures.run) ∙ unchanged in
    let now_same : (commanded c.args.self.now.context c.args.rec).0 ≡ c.args.self.now.context = rw (← c.self.view_is) same in
    OnOk-map c.refuse.result (λ line. line ∙ ap (λ (then : Collecting). with_refusal then error) before ∙ sym (stepped-refused c.args.self.now c.args.rec error c.requires.taken now_is now_same))
    c.refuse.ensures.line

pub returns-in-Some-clause-refused : goal.returns-in-Some-clause-refused
returns-in-Some-clause-refused c = λ other asked.
    let inside = c.self.inside in
    let error = c.in-Some.error in
    let unchanged : c.run.new.self ≡ inside.context = rw c.in-Some.is at c.in-Ok-run.ensures.unchanged in
    let is : (commanded inside.context c.args.rec).1 ≡ Some error = sym (ap (λ answer. answer.1) c.in-Ok-run.ensures.run) ∙ c.in-Some.is in
    let lines = no-line inside.lines.items _ _ c.in-Ok.ensures.line (refused-line inside.context inside.index c.args.rec error is) in
    let front : Context → List ℕ → Collecting = λ context lines. record {
      size = inside.size;
      context = context;
      left = items_left inside.size context inside.pending;
      lines = lines;
      line_count = inside.line_count;
      index = inside.index;
      out_of_memory = inside.out_of_memory;
    } in
    let before : front c.run.new.self c.append_line.new.lines.items ≡ c.args.self.now =
    ap (λ (context : Context). front context c.append_line.new.lines.items) unchanged ∙ ap (front inside.context) lines ∙ c.self.view_is in
    let now_is : (commanded c.args.self.now.context c.args.rec).1 ≡ Some error = rw (← c.self.view_is) is in
    let same = asked-error c.args.self.now c.args.rec error other now_is asked in
    OnOk-map c.refuse.result (λ line. line ∙ ap (λ (then : Collecting). with_refusal then error) before ∙ ap (with_refusal c.args.self.now) same) c.refuse.ensures.line

pub returns-in-Some-clause-memory : goal.returns-in-Some-clause-memory
returns-in-Some-clause-memory c =
    let inside = c.self.inside in
    let error = c.in-Some.error in
    let unchanged : c.run.new.self ≡ inside.context = rw c.in-Some.is at c.in-Ok-run.ensures.unchanged in
    let is : (commanded inside.context c.args.rec).1 ≡ Some error = sym (ap (λ answer. answer.1) c.in-Ok-run.ensures.run) ∙ c.in-Some.is in
    let lines = no-line inside.lines.items _ _ c.in-Ok.ensures.line (refused-line inside.context inside.index c.args.rec error is) in
    let front : Context → List ℕ → Collecting = λ context lines. record {
      size = inside.size;
      context = context;
      left = items_left inside.size context inside.pending;
      lines = lines;
      line_count = inside.line_count;
      index = inside.index;
      out_of_memory = inside.out_of_memory;
    } in
    let before : front c.run.new.self c.append_line.new.lines.items ≡ c.args.self.now =
    ap (λ (context : Context). front context c.append_line.new.lines.items) unchanged ∙ ap (front inside.context) lines ∙ c.self.view_is in
    OnErr-map c.refuse.result (λ line. line ∙ ap (λ (then : Collecting). let next : Collecting = record then { out_of_memory = true } in next) before) c.refuse.ensures.memory
