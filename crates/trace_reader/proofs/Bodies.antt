-- A record's body: the first bytes of its payload, the row of its opcode, the conditions on its length, and then the
-- bytes behind its words.
use Rattle.std.proofs.Common.{◌≡◌, ◌≤◌, ◌<◌, ◌+◌, ◌-◌, ◌*◌, min, ℕ, Bool, true, false, cond, not, ◌||◌, eqb, ltb, List, [], ◌++◌, length, take, drop, replicate, Option, Some, None, IfSome, Result, Ok, Err, refl, sym, ap, subst, ◌∙◌, inl, inr, arith}
use Rattle.std.specs.Io.KnownBytes.{Consumes, IsAtEnd}
use Rattle.std.proofs.Math.Seq.{take-append-add, drop-append-add}
use Rattle.std.proofs.lemmas.Bool.{le-ltb, lt-ltb, ltb-false, eqb-true, eqb-false, leb-true}
use Rattle.std.proofs.lemmas.List.{take_all, drop-append-le, length-append, length-drop, length-take-le}
use Rattle.byteorder.specs.Endian.{little_number, IsRead}
use Rattle.gl_records.specs.declared.rec.Rec.{Rec}
use Rattle.trace_reader.specs.declared.cause.Cause.{Cause}
use Rattle.trace_reader.specs.declared.cause.Cause.TheVariants.{Short, UnknownOp, TooLong, BadLength}
use Rattle.trace_reader.specs.declared.record.Head.{Head}
use Rattle.trace_reader.specs.declared.record.Stop.{Stop}
use Rattle.trace_reader.specs.declared.record.Stop.TheVariants.{Malformed, Failed, NoMemory}
use Rattle.trace_reader.specs.declared.shape.Shape.{Shape}
use Rattle.trace_reader.specs.declared.shape.Shape.TheVariants.{Exactly, AtLeast, Words}
use Rattle.trace_reader.specs.Command.{Layout, with_words}
use Rattle.trace_reader.specs.Numbers.{words as words_in}
use Rattle.trace_reader.specs.Shape.{words_of, has_piece, allows}
use Rattle.trace_reader.specs.Steps.{length_checked, BehindRead, BodyRead}
use Rattle.trace_reader.specs.Table.{row, with_piece, record_from}
use Rattle.trace_reader.specs.Trace.{greatest_payload, greatest_trace, refused_if, body}
use Rattle.trace_reader.proofs.Pieces.{words_taken}

-- ---- what a body is

-- the conditions on a payload's length, which it meets
pub record IsAllowed (offset len : ℕ) (shape : Shape) : Type 0 where
  pub short : len ≤ greatest_payload
  pub ends : offset + 8 + len ≤ greatest_trace
  pub allowed : allows shape len ≡ true

pub body-passes : (offset len : ℕ) (rest : List ℕ) (layout : Layout) → IsAllowed offset len layout.0 → len ≤ length rest → body offset len rest (Some layout) ≡ Ok (record_from layout (take len rest), 8 + len)
body-passes offset len rest layout met whole =
    let a : ltb greatest_payload len ≡ false = le-ltb _ _ met.short in
    let b : ltb greatest_trace (offset + 8 + len) ≡ false = le-ltb _ _ met.ends in
    let c : ltb (length rest) len ≡ false = le-ltb _ _ whole in
    rw (a, b, met.allowed, c) refl

body-short : (offset len : ℕ) (rest : List ℕ) (layout : Layout) → IsAllowed offset len layout.0 → length rest < len → body offset len rest (Some layout) ≡ Err Short
body-short offset len rest layout met part =
    let a : ltb greatest_payload len ≡ false = le-ltb _ _ met.short in
    let b : ltb greatest_trace (offset + 8 + len) ≡ false = le-ltb _ _ met.ends in
    let c : ltb (length rest) len ≡ true = lt-ltb _ _ part in
    rw (a, b, met.allowed, c) refl

abbrev checked : Bool → Bool → Bool → Result (Unit {0}) Stop
checked long ends allowed = cond long (Err (Malformed TooLong)) (cond ends (Err (Malformed TooLong)) (cond allowed (Ok tt) (Err (Malformed BadLength))))

checked-ok : (long ends allowed : Bool) → checked long ends allowed ≡ Ok tt → (long ≡ false) × (ends ≡ false) × (allowed ≡ true)
checked-ok true ends allowed is = absurd cc
checked-ok false true allowed is = absurd cc
checked-ok false false true is = (refl, refl, refl)
checked-ok false false false is = absurd cc

is_allowed : (offset len : ℕ) (shape : Shape) → length_checked offset len shape ≡ Ok tt → IsAllowed offset len shape
is_allowed offset len shape is =
    let each = checked-ok (ltb greatest_payload len) (ltb greatest_trace (offset + 8 + len)) (allows shape len) is in
    record { short = ltb-false _ _ each.0; ends = ltb-false _ _ each.1; allowed = each.2 }

abbrev stopped : Cause → Result (Unit {0}) Stop
stopped cause = Err (Malformed cause)

cause_is : (a b : Cause) → stopped a ≡ stopped b → a ≡ b
cause_is a b is = cc

checked-refused : (long ends allowed : Bool) (cause : Cause) (later : Result (Rec × ℕ) Cause) → checked long ends allowed ≡ Err (Malformed cause) → refused_if (long || ends) TooLong (refused_if (not allowed) BadLength later) ≡ Err cause
checked-refused true ends allowed cause later is = ap Err (cause_is TooLong cause is)
checked-refused false true allowed cause later is = ap Err (cause_is TooLong cause is)
checked-refused false false true cause later is = absurd cc
checked-refused false false false cause later is = ap Err (cause_is BadLength cause is)

body-refused : (offset len : ℕ) (rest : List ℕ) (layout : Layout) (cause : Cause) → length_checked offset len layout.0 ≡ Err (Malformed cause) → body offset len rest (Some layout) ≡ Err cause
body-refused offset len rest layout cause is = checked-refused (ltb greatest_payload len) (ltb greatest_trace (offset + 8 + len)) (allows layout.0 len) cause _ is

-- a payload that is allowed has the words that its shape begins with
words_within : (shape : Shape) (len : ℕ) → allows shape len ≡ true → 4 * words_of shape ≤ len
words_within (Exactly count) len allowed = omega (arith, eqb-true _ _ allowed)
words_within (AtLeast count) len allowed = leb-true _ _ allowed
words_within Words len allowed = omega arith

-- ---- a row that the code was given

-- the row of an opcode that was found with these words
record IsRow (opcode : ℕ) (n : List ℕ) (shape : Shape) (rec : Rec) : Type 0 where
  layout : Layout
  found : row opcode ≡ Some layout
  shaped : layout.0 ≡ shape
  makes : layout.1 n ≡ rec

is_row : (opcode : ℕ) (n : List ℕ) (found : Option Layout) (shape : Shape) (rec : Rec) → row opcode ≡ found → with_words n found ≡ Some (shape, rec) → IsRow opcode n shape rec
is_row opcode n None shape rec here given = absurd cc
is_row opcode n (Some layout) shape rec here given =
    let same : (layout.0, layout.1 n) ≡ (shape, rec) = cc in
    record { layout = layout; found = here; shaped = ap (λ (y : Shape × Rec). y.0) same; makes = ap (λ (y : Shape × Rec). y.1) same }

no_row : (n : List ℕ) (found : Option Layout) → with_words n found ≡ None → found ≡ None
no_row n None given = refl
no_row n (Some layout) given = absurd cc

pub unknown_read : (known left : Option (List ℕ)) (offset : ℕ) (head : Head) (n : List ℕ) → with_words n (row head.opcode) ≡ None → IfSome known (λ rest. BodyRead offset head rest (Err (Malformed UnknownOp)) left)
unknown_read None left offset head n given = tt
unknown_read (Some rest) left offset head n given = ap (body offset head.length rest) (no_row n _ given)

-- ---- the first bytes of a payload

-- the first bytes of a payload of `len` bytes: as many as the words take at most, and whether the source had them
pub record IsFront (len : ℕ) (front : List ℕ) (whole : Bool) (rest later : List ℕ) : Type 0 where
  pub size : length front ≡ min len 64
  pub parts : whole ≡ true → rest ≡ front ++ later
  pub short : whole ≡ false → length rest < len

front_is : (len taken first : ℕ) (front rest later : List ℕ) (whole : Bool) → first ≡ min len 64 → length front ≡ first → taken ≤ length front → rest ≡ take taken front ++ later → (taken < length front → later ≡ []) → eqb taken first ≡ whole
    → IsFront len front whole rest later
front_is len taken first front rest later true least size within took end test =
    let all : take taken front ≡ front = take_all taken front (omega (arith, eqb-true _ _ test)) in
    record { size = size ∙ least; parts = λ is. took ∙ ap (λ (own : List ℕ). own ++ later) all; short = λ is. absurd cc }
front_is len taken first front rest later false least size within took end test =
    let part : taken < length front = omega (arith, eqb-false _ _ test) in
    let sum : length rest ≡ length (take taken front) + length later = ap length took ∙ length-append (take taken front) later in
    record { size = size ∙ least; parts = λ is. absurd cc; short = λ is. omega (arith, length-take-le taken front within, ap length (end part)) }

-- the part of the buffer that was filled
pub front_size : (len first : ℕ) (front into : List ℕ) → front ≡ into → length into ≡ first → first ≡ min len 64 → length front ≡ min len 64
front_size len first front into same size least = ap length same ∙ size ∙ least

-- ---- the record of a payload that was read in parts

-- the piece: what was read with the words, and what was read behind it
piece_is : (len words : ℕ) (front later piece : List ℕ) → length front ≡ min len 64 → words ≤ len → words ≤ 64 → piece ≡ drop words front ++ take (len - words - length (drop words front)) later → drop words (take len (front ++ later)) ≡ piece
piece_is len words front later piece size within few is =
    let own : length (drop words front) ≡ length front - words = length-drop words front in
    let more : len - words - length (drop words front) ≡ len - length front = omega arith in
    let sum : len ≡ length front + (len - length front) = omega arith in
    let payload : take len (front ++ later) ≡ front ++ take (len - length front) later = ap (λ (m : ℕ). take m (front ++ later)) sum ∙ take-append-add front later (len - length front) in
    ap (drop words) payload
    ∙ drop-append-le words front (take (len - length front) later) (omega arith)
    ∙ sym (is ∙ ap (λ (m : ℕ). drop words front ++ take m later) more)

-- the record and what is left, where the payload was read whole
body_ok : (offset : ℕ) (head : Head) (n piece front rest later : List ℕ) (shape : Shape) (rec : Rec) (whole : Bool) (past : ℕ) (left : Option (List ℕ)) → with_words n (row head.opcode) ≡ Some (shape, rec) → words_of shape ≤ 16
    → IsFront head.length front whole rest later → length n ≡ 16 → IsRead little_number 4 (front ++ drop past (replicate 64 0)) n → BehindRead offset head.length shape front whole later (Ok piece) left
    → BodyRead offset head rest (Ok (with_piece piece rec, 8 + head.length)) left
body_ok offset head n piece front rest later shape rec whole past left given few begun sixteen read behind =
    let len = head.length in
    let is = is_row head.opcode n _ shape rec refl given in
    let met = is_allowed offset len shape behind.0 in
    let words = 4 * words_of shape in
    let within : words ≤ len = words_within shape len met.allowed in
    let size : length front ≡ min len 64 = begun.size in
    let parts : rest ≡ front ++ later = begun.parts behind.1 in
    let own : length (drop words front) ≡ length front - words = length-drop words front in
    let enough : len - words ≤ length (drop words front) + length later = behind.2.0 in
    let all : len ≤ length rest = rw parts (omega (arith, length-append front later)) in
    let passes = body-passes offset len rest is.layout (rw is.shaped met) all in
    let words_are : n ≡ words_in (take len rest) = words_taken len past front later n size sixteen read ∙ ap (λ (bytes : List ℕ). words_in (take len bytes)) (sym parts) in
    let piece_same : drop words (take len rest) ≡ piece = ap (λ (bytes : List ℕ). drop words (take len bytes)) parts ∙ piece_is len words front later piece size within (omega arith) behind.2.1 in
    let made : record_from is.layout (take len rest) ≡ with_piece piece rec =
    ap (λ (s : Shape). with_piece (drop (4 * words_of s) (take len rest)) (is.layout.1 (words_in (take len rest)))) is.shaped
    ∙ ap (λ (own : List ℕ). with_piece own (is.layout.1 (words_in (take len rest)))) piece_same
    ∙ ap (λ (own : List ℕ). with_piece piece (is.layout.1 own)) (sym words_are)
    ∙ ap (with_piece piece) is.makes in
    let more : len - words - length (drop words front) ≡ len - length front = omega arith in
    let sum : len ≡ length front + (len - length front) = omega arith in
    let left_is : drop (len - words - length (drop words front)) later ≡ drop len rest =
    ap (λ (m : ℕ). drop m later) more
    ∙ sym (drop-append-add front later (len - length front))
    ∙ ap (λ (m : ℕ). drop m (front ++ later)) (sym sum)
    ∙ ap (drop len) (sym parts) in
    (ap (body offset len rest) is.found ∙ passes ∙ ap (λ (own : Rec). Ok (own, 8 + len)) made, refl, behind.2.2 ∙ ap Some left_is)

-- why there is none, where it was not
body_err : (offset : ℕ) (head : Head) (n front rest later : List ℕ) (shape : Shape) (rec : Rec) (whole : Bool) (stop : Stop) (left : Option (List ℕ)) → with_words n (row head.opcode) ≡ Some (shape, rec)
    → IsFront head.length front whole rest later → BehindRead offset head.length shape front whole later (Err stop) left → BodyRead offset head rest (Err stop) left
body_err offset head n front rest later shape rec whole (Malformed cause) left given begun behind =
    let is = is_row head.opcode n _ shape rec refl given in
    ap (body offset head.length rest) is.found
    ∙ elim behind [
      | inl refused ↦ body-refused offset head.length rest is.layout cause (rw is.shaped refused)
      | inr short ↦
          let met : IsAllowed offset head.length is.layout.0 = rw is.shaped (is_allowed offset head.length shape short.0) in
          body-short offset head.length rest is.layout met (part head.length front rest later whole begun short.2) ∙ ap Err (sym short.1)
    ]
  where
    part : (len : ℕ) (front rest later : List ℕ) (whole : Bool) → IsFront len front whole rest later → (whole ≡ true → length front + length later < len) → length rest < len
    part len front rest later true begun short = rw (begun.parts refl) (omega (arith, short refl, length-append front later))
    part len front rest later false begun short = begun.short refl
body_err offset head n front rest later shape rec whole Failed left given begun behind = tt
body_err offset head n front rest later shape rec whole NoMemory left given begun behind =
    let is = is_row head.opcode n _ shape rec refl given in
    rw (is.found, is.shaped) behind

-- ---- the answers

pub body_read : (known mid left : Option (List ℕ)) (offset : ℕ) (head : Head) (first taken past : ℕ) (into front n piece : List ℕ) (shape : Shape) (rec : Rec) → first ≡ min head.length 64 → length into ≡ first → front ≡ into → taken ≤ length into
    → Consumes known mid (take taken into) → (taken < length into → IsAtEnd mid) → length n ≡ 16 → IsRead little_number 4 (into ++ drop past (replicate 64 0)) n → with_words n (row head.opcode) ≡ Some (shape, rec) → words_of shape ≤ 16
    → IfSome mid (λ later. BehindRead offset head.length shape front (eqb taken first) later (Ok piece) left) → IfSome known (λ rest. BodyRead offset head rest (Ok (with_piece piece rec, 8 + head.length)) left)
body_read None mid left offset head first taken past into front n piece shape rec least size same within took end sixteen read given few behind = tt
body_read (Some rest) None left offset head first taken past into front n piece shape rec least size same within took end sixteen read given few behind = absurd took
body_read (Some rest) (Some later) left offset head first taken past into front n piece shape rec least size same within took end sixteen read given few behind =
    let begun = front_is head.length taken first into rest later (eqb taken first) least size within took end refl in
    body_ok offset head n piece into rest later shape rec (eqb taken first) past left given few begun sixteen read (rw same at behind)

pub body_not_read : (known mid left : Option (List ℕ)) (offset : ℕ) (head : Head) (first taken : ℕ) (into front n : List ℕ) (shape : Shape) (rec : Rec) (stop : Stop) → first ≡ min head.length 64 → length into ≡ first → front ≡ into → taken ≤ length into
    → Consumes known mid (take taken into) → (taken < length into → IsAtEnd mid) → with_words n (row head.opcode) ≡ Some (shape, rec) → IfSome mid (λ later. BehindRead offset head.length shape front (eqb taken first) later (Err stop) left)
    → IfSome known (λ rest. BodyRead offset head rest (Err stop) left)
body_not_read None mid left offset head first taken into front n shape rec stop least size same within took end given behind = tt
body_not_read (Some rest) None left offset head first taken into front n shape rec stop least size same within took end given behind = absurd took
body_not_read (Some rest) (Some later) left offset head first taken into front n shape rec stop least size same within took end given behind =
    let begun = front_is head.length taken first into rest later (eqb taken first) least size within took end refl in
    let stopped_behind = subst (λ (own : List ℕ). BehindRead offset head.length shape own (eqb taken first) later (Err stop) left) same behind in
    body_err offset head n into rest later shape rec (eqb taken first) stop left given begun stopped_behind

-- a list of words found no memory, and its row has a piece
pub list_not_read : (known left : Option (List ℕ)) (offset : ℕ) (head : Head) (n : List ℕ) (shape : Shape) (rec : Rec) → with_words n (row head.opcode) ≡ Some (shape, rec) → has_piece shape ≡ true → IfSome known (λ rest. BodyRead offset head rest (Err NoMemory) left)
list_not_read None left offset head n shape rec given piece = tt
list_not_read (Some rest) left offset head n shape rec given piece =
    let is = is_row head.opcode n _ shape rec refl given in
    rw (is.found, is.shaped) piece
