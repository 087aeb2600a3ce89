-- What the bytes are from a place on, unfolded by one record.
use Rattle.std.proofs.Common.{◌≡◌, ◌≢◌, ◌≤◌, ◌+◌, ℕ, zero, suc, Bool, true, false, not, ◌||◌, eqb, ltb, List, [], ◌∷◌, length, take, drop, Option, Some, None, IfSome, Result, Ok, Err, refl, sym, ap, subst, ◌∙◌, arith}
use Rattle.std.proofs.lemmas.Bool.{ltb-false, eq-eqb, ne_eqb}
use Rattle.std.proofs.lemmas.List.{length-drop, nil_from_length}
use Rattle.gl_records.specs.declared.rec.Rec.{Rec}
use Rattle.gl_records.specs.declared.rec.Rec.TheVariants.{End}
use Rattle.trace_reader.specs.declared.cause.Cause.{Cause}
use Rattle.trace_reader.specs.declared.cause.Cause.TheVariants.{Short, NoEnd, TooLong, BadLength, Trailing}
use Rattle.trace_reader.specs.declared.record.Stop.TheVariants.{Malformed}
use Rattle.trace_reader.specs.Reading.{MovesOver, ReadsAt, TakenAt}
use Rattle.trace_reader.specs.Steps.{RecordRead}
use Rattle.trace_reader.specs.Command.{Layout}
use Rattle.trace_reader.specs.Shape.{allows}
use Rattle.trace_reader.specs.Table.{record_from}
use Rattle.trace_reader.specs.Trace.{greatest_payload, greatest_trace, Head, Tail, refused_if, head, body, record_of, record_at, is_end, ended, refused, with_record, after_record, tail_within, tail_at}

-- a condition that did not decide
pub refused_if-ok : {A : Type 0} (b : Bool) (cause : Cause) (later : Result A Cause) (x : A) → refused_if b cause later ≡ Ok x → (b ≡ false) × (later ≡ Ok x)
refused_if-ok true cause later x e = absurd cc
refused_if-ok false cause later x e = (refl, e)

abbrev read : {A : Type 0} → A → Result A Cause
read x = Ok x

-- what was read is one value
pub ok_is : {A : Type 0} (x y : A) → read x ≡ read y → x ≡ y
ok_is x y e = cc

-- what a record takes is eight bytes or more, and there
pub record IsTaken (n : ℕ) (bytes : List ℕ) : Type 0 where
  pub some : 8 ≤ n
  pub within : n ≤ length bytes

body-taken : (offset len : ℕ) (bytes : List ℕ) (found : Option Layout) (x : Rec × ℕ) → 8 ≤ length bytes → body offset len (drop 8 bytes) found ≡ Ok x → IsTaken x.1 bytes
body-taken offset len bytes None x long e = absurd cc
body-taken offset len bytes (Some found) x long e =
    let a = refused_if-ok (ltb greatest_payload len || ltb greatest_trace (offset + 8 + len)) TooLong _ x e in
    let b = refused_if-ok (not (allows found.0 len)) BadLength _ x a.1 in
    let c = refused_if-ok (ltb (length (drop 8 bytes)) len) Short (Ok (record_from found (take len (drop 8 bytes)), 8 + len)) x b.1 in
    let fits : len ≤ length (drop 8 bytes) = ltb-false _ _ c.0 in
    let same = ok_is (record_from found (take len (drop 8 bytes)), 8 + len) x c.1 in
    let n : 8 + len ≡ x.1 = ap (λ (y : Rec × ℕ). y.1) same in
    record { some = omega arith; within = omega (arith, length-drop 8 bytes) }

head-long : (bytes : List ℕ) (x : Head) → head bytes ≡ Ok x → 8 ≤ length bytes
head-long bytes x e =
    let a = refused_if-ok (eqb (length bytes) 0) NoEnd _ x e in
    let b = refused_if-ok (ltb (length bytes) 8) Short _ x a.1 in
    ltb-false _ _ b.0

record_of-taken : (offset : ℕ) (bytes : List ℕ) (begun : Result Head Cause) (x : Rec × ℕ) → head bytes ≡ begun → record_of offset (drop 8 bytes) begun ≡ Ok x → IsTaken x.1 bytes
record_of-taken offset bytes (Err cause) x begun e = absurd cc
record_of-taken offset bytes (Ok found) x begun e = body-taken offset found.length bytes _ x (head-long bytes found begun) e

pub record_at-taken : (offset : ℕ) (bytes : List ℕ) (x : Rec × ℕ) → record_at offset bytes ≡ Ok x → IsTaken x.1 bytes
record_at-taken offset bytes x e = record_of-taken offset bytes (head bytes) x refl e

after_record-same : (index offset : ℕ) (bytes : List ℕ) (r : Result (Rec × ℕ) Cause) (f g : ℕ → Tail) → ((x : Rec × ℕ) → r ≡ Ok x → f x.1 ≡ g x.1)
    → after_record index offset bytes r f ≡ after_record index offset bytes r g
after_record-same index offset bytes (Err cause) f g same = refl
after_record-same index offset bytes (Ok found) f g same = rw (same found refl) refl

-- any bound that is large enough gives the same
tail_within-same : (a b index offset : ℕ) (bytes : List ℕ) → length bytes ≤ a → length bytes ≤ b → tail_within a index offset bytes ≡ tail_within b index offset bytes
unfolding tail_within
tail_within-same zero zero index offset bytes p q = refl
tail_within-same zero (suc b) index offset [] p q = refl
tail_within-same zero (suc b) index offset (x ∷ bytes) p q = absurd (omega arith)
tail_within-same (suc a) zero index offset [] p q = refl
tail_within-same (suc a) zero index offset (x ∷ bytes) p q = absurd (omega arith)
tail_within-same (suc a) (suc b) index offset bytes p q =
    after_record-same index offset bytes (record_at offset bytes) _ _ (λ x e.
    let t = record_at-taken offset bytes x e in
    let some = t.some in
    tail_within-same a b (index + 1) (offset + x.1) (drop x.1 bytes) (omega (arith, length-drop x.1 bytes)) (omega (arith, length-drop x.1 bytes)))

-- the first record, or how the bytes end, and then what follows it
pub tail_at-step : (index offset : ℕ) (bytes : List ℕ) → tail_at index offset bytes ≡ after_record index offset bytes (record_at offset bytes) (λ n. tail_at (index + 1) (offset + n) (drop n bytes))
unfolding tail_within
tail_at-step index offset [] = refl
tail_at-step index offset (x ∷ bytes) =
    after_record-same index offset (x ∷ bytes) (record_at offset (x ∷ bytes)) _ _ (λ y e.
    let t = record_at-taken offset (x ∷ bytes) y e in
    let some = t.some in
    tail_within-same (length bytes) _ (index + 1) (offset + y.1) (drop y.1 (x ∷ bytes)) (omega (arith, length-drop y.1 (x ∷ bytes))) (omega arith))

pub is_end-other : (rec : Rec) → (rec ≡ End → ⊥) → is_end rec ≡ false
is_end-other End other = absurd (other refl)
is_end-other _ other = refl

-- a reader that moved by the bytes of the record that was read at its place
pub moves_over : (known left : Option (List ℕ)) (old place new : ℕ) (rec : Rec) (n : ℕ) → place ≡ old → new ≡ place + n → IfSome known (λ bytes. TakenAt place bytes (rec, n) left) → IfSome known (λ bytes. MovesOver old bytes rec new left)
moves_over None left old place new rec n same moved taken = tt
moves_over (Some bytes) left old place new rec n same moved taken =
    (n, moved ∙ ap (λ (m : ℕ). m + n) same, subst (λ (m : ℕ). TakenAt m bytes (rec, n) left) same taken)

-- the answers at a place, from the record that was read there

pub record_answers : (known left : Option (List ℕ)) (index offset : ℕ) (x : Rec × ℕ) → is_end x.0 ≡ false → IfSome known (λ bytes. RecordRead offset bytes (Ok x) left)
    → IfSome known (λ bytes. ReadsAt index offset bytes (Ok x) left)
record_answers None left index offset x other read = tt
record_answers (Some bytes) left index offset x other read =
    let step : tail_at index offset bytes ≡ with_record x.0 (tail_at (index + 1) (offset + x.1) (drop x.1 bytes)) = tail_at-step index offset bytes ∙ rw (read.0, other) refl in
    rw (other, read.1) step

pub end_answers : (known mid left : Option (List ℕ)) (index offset : ℕ) (rec : Rec) (n : ℕ) → rec ≡ End → IfSome known (λ bytes. RecordRead offset bytes (Ok (rec, n)) mid)
    → IfSome mid (λ rest. (rest ≡ []) × (left ≡ Some [])) → IfSome known (λ bytes. ReadsAt index offset bytes (Ok (End, n)) left)
end_answers None mid left index offset rec n last read none = tt
end_answers (Some bytes) None left index offset rec n last read none = absurd cc
end_answers (Some bytes) (Some rest) left index offset rec n last read none =
    let t = record_at-taken offset bytes (rec, n) read.0 in
    let within = t.within in
    let same : rest ≡ drop n bytes = cc in
    let empty : length (drop n bytes) ≡ 0 = ap length (sym same ∙ none.0) in
    let all : eqb (length bytes) n ≡ true = eq-eqb _ _ (omega (arith, length-drop n bytes)) in
    let step : tail_at index offset bytes ≡ ended = tail_at-step index offset bytes ∙ rw (read.0, last, all) refl in
    (step, none.1)

pub trailing_answers : (known mid : Option (List ℕ)) (index offset : ℕ) (rec : Rec) (n : ℕ) → rec ≡ End → IfSome known (λ bytes. RecordRead offset bytes (Ok (rec, n)) mid)
    → IfSome mid (λ rest. rest ≢ []) → IfSome known (λ bytes. tail_at index offset bytes ≡ refused (index + 1) (offset + n) Trailing)
trailing_answers None mid index offset rec n last read some = tt
trailing_answers (Some bytes) None index offset rec n last read some = absurd cc
trailing_answers (Some bytes) (Some rest) index offset rec n last read some =
    let same : rest ≡ drop n bytes = cc in
    let more : eqb (length bytes) n ≡ false = ne_eqb _ _ (λ e. some (same ∙ nil_from_length _ (omega (arith, length-drop n bytes)))) in
    tail_at-step index offset bytes ∙ rw (read.0, last, more) refl

pub malformed_answers : (known mid : Option (List ℕ)) (index offset : ℕ) (cause : Cause) → IfSome known (λ bytes. RecordRead offset bytes (Err (Malformed cause)) mid)
    → IfSome known (λ bytes. tail_at index offset bytes ≡ refused index offset cause)
malformed_answers None mid index offset cause read = tt
malformed_answers (Some bytes) mid index offset cause read = tail_at-step index offset bytes ∙ rw read refl
