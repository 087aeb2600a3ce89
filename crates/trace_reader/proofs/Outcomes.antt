-- Every list of bytes has one outcome.
use Rattle.std.proofs.Common.{◌≡◌, ◌≢◌, ◌≤◌, ◌+◌, ℕ, zero, suc, Bool, true, false, cond, eqb, List, [], ◌∷◌, length, drop, Result, Ok, Err, refl, sym, ap, ◌∙◌, inl, inr, arith}
use Rattle.std.proofs.lemmas.Bool.{eq-eqb, ne_eqb, eqb-true, eqb-false}
use Rattle.std.proofs.lemmas.List.{length-drop}
use Rattle.gl_records.specs.declared.rec.Rec.{Rec}
use Rattle.gl_records.specs.declared.rec.Rec.TheVariants.{End}
use Rattle.gl_records.specs.declared.size.Size.{Size}
use Rattle.trace_reader.specs.declared.cause.Cause.{Cause}
use Rattle.trace_reader.specs.declared.cause.Cause.TheVariants.{Trailing}
use Rattle.trace_reader.specs.Outcome.{IsTail, IsOutcome}
use Rattle.trace_reader.specs.Trace.{Ending, Ended, Malformed, Tail, Outcome, BadHeader, Readable, header, record_at, is_end, ended, refused, with_record, after_record, tail_within, tail_at, after_header, trace_of}
use Rattle.trace_reader.proofs.Tails.{record_at-taken, tail_at-step, is_end-other}

abbrev IsTailOf : ℕ → ℕ → List ℕ → Tail → Type 0
IsTailOf index offset bytes tail = IsTail index offset bytes tail.records tail.ending

pub is_end-end : (rec : Rec) → is_end rec ≡ true → rec ≡ End
is_end-end End last = refl
is_end-end _ last = absurd cc

pub is_end-plain : (rec : Rec) → is_end rec ≡ false → rec ≢ End
is_end-plain rec plain same = let last : is_end rec ≡ true = rw same refl in absurd cc

end_is : (index offset : ℕ) (bytes : List ℕ) (n : ℕ) (all : Bool) → eqb (length bytes) n ≡ all → record_at offset bytes ≡ Ok (End, n)
    → IsTailOf index offset bytes (cond all ended (refused (index + 1) (offset + n) Trailing))
end_is index offset bytes n true all is = let whole : length bytes ≡ n = eqb-true _ _ all in is ∙ ap (λ (m : ℕ). Ok (End, m)) (sym whole)
end_is index offset bytes n false all is =
    let t = record_at-taken offset bytes (End, n) is in
    let within = t.within in
    let other : length bytes ≢ n = eqb-false _ _ all in
    inr (n, is, omega arith, refl, refl, refl)

found_is : (index offset : ℕ) (bytes : List ℕ) (found : Rec × ℕ) (later : Tail) (last : Bool) → is_end found.0 ≡ last → record_at offset bytes ≡ Ok found → IsTailOf (index + 1) (offset + found.1) (drop found.1 bytes) later
    → IsTailOf index offset bytes (cond last (cond (eqb (length bytes) found.1) ended (refused (index + 1) (offset + found.1) Trailing)) (with_record found.0 later))
found_is index offset bytes found later true last is rest =
    let end : found.0 ≡ End = is_end-end found.0 last in
    end_is index offset bytes found.1 (eqb (length bytes) found.1) refl (is ∙ ap (λ (rec : Rec). Ok (rec, found.1)) end)
found_is index offset bytes found later false last is rest = (is_end-plain found.0 last, (found.1, is, rest))

after_record-is : (index offset : ℕ) (bytes : List ℕ) (read : Result (Rec × ℕ) Cause) (later : ℕ → Tail) → record_at offset bytes ≡ read
    → ((found : Rec × ℕ) → read ≡ Ok found → IsTailOf (index + 1) (offset + found.1) (drop found.1 bytes) (later found.1)) → IsTailOf index offset bytes (after_record index offset bytes read later)
after_record-is index offset bytes (Err cause) later is rest = inl (is, refl, refl)
after_record-is index offset bytes (Ok found) later is rest = found_is index offset bytes found (later found.1) (is_end found.0) refl is (rest found refl)

tail_within-is : (most index offset : ℕ) (bytes : List ℕ) → length bytes ≤ most → IsTailOf index offset bytes (tail_within most index offset bytes)
unfolding tail_within
tail_within-is zero index offset [] short = inl (refl, refl, refl)
tail_within-is zero index offset (x ∷ bytes) short = absurd (omega arith)
tail_within-is (suc most) index offset bytes short =
    after_record-is index offset bytes (record_at offset bytes) _ refl (λ found is.
    let t = record_at-taken offset bytes found is in
    let some = t.some in
    tail_within-is most (index + 1) (offset + found.1) (drop found.1 bytes) (omega (arith, length-drop found.1 bytes)))

after_header-is : (bytes : List ℕ) (read : Result Size Cause) → header bytes ≡ read → IsOutcome bytes (after_header bytes read)
after_header-is bytes (Err cause) is = is
after_header-is bytes (Ok size) is = (is, tail_within-is _ 0 8 (drop 8 bytes) (omega arith))

-- there is one
pub trace_of-is : (bytes : List ℕ) → IsOutcome bytes (trace_of bytes)
trace_of-is bytes = after_header-is bytes (header bytes) refl

abbrev made : List Rec → Ending → Tail
made records ending = record { records = records; ending = ending }

tail_at-only : (index offset : ℕ) (bytes : List ℕ) (records : List Rec) (ending : Ending) → IsTail index offset bytes records ending → tail_at index offset bytes ≡ made records ending
tail_at-only index offset bytes [] Ended is = tail_at-step index offset bytes ∙ rw (is, eq-eqb (length bytes) (length bytes) refl) refl
tail_at-only index offset bytes [] (Malformed refusal) is =
    elim is [
      | inl here ↦ tail_at-step index offset bytes ∙ rw (here.0, ← here.1, ← here.2) refl
      | inr trailed ↦
          let n = trailed.0 in
          let more : eqb (length bytes) n ≡ false = ne_eqb _ _ (λ e. omega (arith, trailed.2)) in
          tail_at-step index offset bytes ∙ rw (trailed.1, more, ← trailed.3, ← trailed.4, ← trailed.5) refl
    ]
tail_at-only index offset bytes (rec ∷ records) ending is =
    tail_at-step index offset bytes
    ∙ rw (is.1.1, is_end-other rec is.0) (ap (with_record rec) (tail_at-only (index + 1) (offset + is.1.0) (drop is.1.0 bytes) records ending is.1.2))

-- and there is no other
pub trace_of-only : (bytes : List ℕ) (outcome : Outcome) → IsOutcome bytes outcome → trace_of bytes ≡ outcome
trace_of-only bytes (BadHeader cause) is = rw is refl
trace_of-only bytes (Readable size tail) is = rw is.0 (ap (Readable size) (tail_at-only 0 8 (drop 8 bytes) tail.records tail.ending is.1))
