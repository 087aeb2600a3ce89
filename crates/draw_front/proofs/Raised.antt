-- A front whose context's flag took an error: what is left is as it was.
use Rattle.std.proofs.Common.{◌≡◌, ◌∙◌, ◌+◌, ℕ, Bool, List, ◌++◌, refl, sym, ap}
use Rattle.std.proofs.lemmas.List.{append-nil}
use Rattle.gl_records.specs.declared.size.Size.{Size}
use Rattle.gl_records.specs.Captured.{Captured}
use Rattle.gl_tokens.specs.declared.gl_error.GlError.{GlError}
use Rattle.output_format.specs.Log.{raise_line}
use Rattle.draw_front.specs.declared.pending.Pending.{Pending}
use Rattle.draw_front.specs.declared.pending.Pending.TheVariants as pending
use Rattle.draw_front.specs.Call.{with_error}
use Rattle.draw_front.specs.Collecting.{Collecting, with_refusal}
use Rattle.draw_front.specs.Context.{Context}
use Rattle.draw_front.specs.Pending.{items_left}

left-raised : (size : Size) (context : Context) (error : GlError) (left : Pending) → items_left size (with_error context error) left ≡ items_left size context left
left-raised size context error pending.Nothing = refl
left-raised size context error (pending.Clear clear) = refl
left-raised size context error (pending.Draw fragments rest) = refl

pub refused-view : (size : Size) (context later : Context) (left : Pending) (lines appended : List ℕ) (count index : ℕ) (out : Bool) (error : GlError)
    → later ≡ with_error context error → appended ≡ lines ++ raise_line index error
    → (let next : Collecting = record { size = size; context = later; left = items_left size later left; lines = appended; line_count = count + 1; index = index + 1; out_of_memory = out } in next)
    ≡ with_refusal (record { size = size; context = context; left = items_left size context left; lines = lines; line_count = count; index = index; out_of_memory = out }) error
refused-view size context later left lines appended count index out error later_is lines_is =
    let made : Context → List Captured → List ℕ → Collecting = λ context items lines.
    record { size = size; context = context; left = items; lines = lines; line_count = count + 1; index = index + 1; out_of_memory = out } in
    let line = raise_line index error in
    ap (λ (c : Context). made c (items_left size c left) appended) later_is
    ∙ ap (λ (items : List Captured). made (with_error context error) items appended) (left-raised size context error left)
    ∙ ap (made (with_error context error) (items_left size context left)) (lines_is ∙ ap (λ (l : List ℕ). lines ++ l) (sym (append-nil line)))
