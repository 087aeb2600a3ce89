-- A command that makes an error changes nothing but the flag, the lines and the count of records.
use Rattle.std.proofs.Common.{◌≡◌, ◌≤◌, ◌∙◌, ◌+◌, ℕ, ℤ, Bool, true, false, cond, length, List, [], ◌∷◌, ◌++◌, Option, Some, None, Result, Ok, Err, OnErr, OnOk, refl, sym, ap, arith}
use Rattle.std.specs.Prelude.{option_to_list}
use Rattle.std.proofs.lemmas.List.{append-nil}
use Rattle.buffer_objects.specs.Commands.{given_names}
use Rattle.texture_store.specs.Commands as texture_commands
use Rattle.gl_records.specs.declared.rec.Rec.{Rec}
use Rattle.gl_records.specs.declared.rec.Rec.TheVariants.{End, GetError, Get, IsEnabled, IsBuffer, IsTexture, GenBuffers, GenTextures}
use Rattle.gl_records.specs.Captured.{Captured}
use Rattle.gl_tokens.specs.declared.gl_error.GlError.{GlError}
use Rattle.output_format.specs.Log.{raise_line}
use Rattle.trace_reader.specs.Reading.{index_after}
use Rattle.trace_reader.specs.Trace.{is_end}
use Rattle.draw_front.specs.Call.{answer_error, answer_line, answered, commanded, given_line, items_of, line_of, queried, with_error}
use Rattle.draw_front.specs.Collecting.{Collecting, after_call, asked_of, stepped, with_lines, with_refusal}
use Rattle.draw_front.specs.Context.{Context}
use Rattle.draw_front.specs.Immediate.{joined}

-- End makes no error
refused-plain : (context : Context) (rec : Rec) (error : GlError) → (commanded context rec).1 ≡ Some error → is_end rec ≡ false
refused-plain context End error is = absurd cc
refused-plain context _ error is = refl

-- neither does a command that has a line
unanswered : (index : ℕ) (answer : Result (List ℤ) GlError) (error : GlError) → answer_error answer ≡ Some error → answer_line index answer ≡ None
unanswered index (Ok values) error is = absurd cc
unanswered index (Err found) error is = refl

ungiven : (index : ℕ) (given : Result (List ℕ) GlError) (error : GlError) → answer_error given ≡ Some error → given_line index given ≡ None
ungiven index (Ok names) error is = absurd cc
ungiven index (Err found) error is = refl

pub refused-line : (context : Context) (index : ℕ) (rec : Rec) (error : GlError) → (commanded context rec).1 ≡ Some error → line_of context index rec ≡ None
refused-line context index GetError error is = absurd cc
refused-line context index (Get query) error is = unanswered index (queried context (Get query)) error is
refused-line context index (IsEnabled capability) error is = unanswered index (queried context (IsEnabled capability)) error is
refused-line context index (IsBuffer name) error is = unanswered index (queried context (IsBuffer name)) error is
refused-line context index (IsTexture name) error is = unanswered index (queried context (IsTexture name)) error is
refused-line context index (GenBuffers count) error is = ungiven index (given_names context.buffers count) error is
refused-line context index (GenTextures count) error is = ungiven index (texture_commands.given_names context.textures count) error is
refused-line context index _ error is = refl

-- a call with an error, whose context is the one before it
after_refusal : (now : Collecting) (items : List Captured) (line : Option (List ℕ)) (answer : Context × Option GlError) (last : Bool) (error : GlError)
    → answer.1 ≡ Some error → answer.0 ≡ now.context → now.left ≡ [] → last ≡ false
    → (let next : Collecting = record (after_call now (answered now.index items line answer)) { index = cond last now.index (now.index + 1) } in next) ≡ with_refusal now error
after_refusal now items line (context, None) last error is same none plain = absurd cc
after_refusal now items line (context, Some found) last error is same none plain =
    let made : GlError → Context → List Captured → Bool → Collecting = λ error context left last.
    record (with_lines now (raise_line now.index error ∷ [])) { context = with_error context error; left = left; index = cond last now.index (now.index + 1) } in
    let found_is : found ≡ error = cc in
    ap (λ (e : GlError). made e context [] last) found_is
    ∙ ap (λ (context : Context). made error context [] last) same
    ∙ ap (λ (left : List Captured). made error now.context left last) (sym none)
    ∙ ap (made error now.context now.left) plain

pub stepped-refused : (now : Collecting) (rec : Rec) (error : GlError) → now.left ≡ [] → (commanded now.context rec).1 ≡ Some error → (commanded now.context rec).0 ≡ now.context → stepped now rec ≡ with_refusal now error
stepped-refused now rec error none is same =
    after_refusal now (items_of now.size now.context rec) (line_of now.context now.index rec) (commanded now.context rec) (is_end rec) error is same none (refused-plain now.context rec error is)

pub OnOk-map : {A E P Q : Type 0} (r : Result A E) → (P → Q) → OnOk r P → OnOk r Q
OnOk-map (Ok value) f p = f p
OnOk-map (Err error) f p = tt

pub OnErr-map : {A E P Q : Type 0} (r : Result A E) → (P → Q) → OnErr r P → OnErr r Q
OnErr-map (Ok value) f p = tt
OnErr-map (Err error) f p = f p

-- where there is no line, nothing is appended
pub no-line : (lines later : List ℕ) (line : Option (List ℕ)) → later ≡ lines ++ joined (option_to_list line) → line ≡ None → later ≡ lines
no-line lines later line is none = is ∙ ap (λ (l : Option (List ℕ)). lines ++ joined (option_to_list l)) none ∙ append-nil lines

-- a call has the command's error
answered-error : (index : ℕ) (items : List Captured) (line : Option (List ℕ)) (answer : Context × Option GlError) (error : GlError) → answer.1 ≡ Some error → (answered index items line answer).error ≡ Some error
answered-error index items line (context, None) error is = absurd cc
answered-error index items line (context, Some found) error is = is

pub asked-is : (now : Collecting) (rec : Rec) (error : GlError) → (commanded now.context rec).1 ≡ Some error → (asked_of now rec).error ≡ Some error
asked-is now rec error is = answered-error now.index (items_of now.size now.context rec) (line_of now.context now.index rec) (commanded now.context rec) error is

pub asked-error : (now : Collecting) (rec : Rec) (error other : GlError) → (commanded now.context rec).1 ≡ Some error → (asked_of now rec).error ≡ Some other → error ≡ other
asked-error now rec error other is asked =
    let found : Some error ≡ Some other = sym (asked-is now rec error is) ∙ asked in
    cc

-- a record has one line at most, and End has none
few_lines : (line : Option (List ℕ)) → length (option_to_list line) ≤ 1
few_lines None = omega arith
few_lines (Some line) = omega arith

end-line : (context : Context) (index : ℕ) (rec : Rec) → is_end rec ≡ true → line_of context index rec ≡ None
end-line context index End is = refl
end-line context index _ is = absurd cc

counted-by : (context : Context) (index : ℕ) (rec : Rec) (last : Bool) → is_end rec ≡ last → index + length (option_to_list (line_of context index rec)) ≤ cond last index (index + 1)
counted-by context index rec true is = rw (end-line context index rec is) (omega arith)
counted-by context index rec false is = omega (arith, few_lines (line_of context index rec))

pub line-counted : (context : Context) (index : ℕ) (rec : Rec) → index + length (option_to_list (line_of context index rec)) ≤ index_after index rec
line-counted context index rec = counted-by context index rec (is_end rec) refl
