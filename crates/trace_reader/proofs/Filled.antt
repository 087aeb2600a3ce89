-- A buffer that is filled from its front on.
use Rattle.std.proofs.Common.{◌≡◌, ◌≤◌, ◌<◌, ◌+◌, ◌-◌, ℕ, Bool, true, false, eqb, List, [], ◌++◌, length, take, drop, Option, Some, None, IfSome, refl, sym, ap, subst, ◌∙◌, arith}
use borrow.Rule.Slice.PartMut.{put_mid, post_of}
use Rattle.std.specs.Io.KnownBytes.{Consumes, IsAtEnd}
use Rattle.std.proofs.KnownBytes.{Consumes-trans}
use Rattle.std.proofs.Math.Seq.{take-append-add}
use Rattle.std.proofs.lemmas.Bool.{eqb-true, eqb-false}
use Rattle.std.proofs.lemmas.List.{append-nil, take-append-le, take_all, take_at, drop_at, drop_all, length-append, length-drop, length-take-le}
use Rattle.trace_reader.specs.Steps.{FilledBehind}

-- the front after a piece was written behind it
take-filled : (filled taken k : ℕ) (into piece : List ℕ) → filled ≤ length into → taken ≤ length piece
    → take (filled + taken) (put_mid filled k into piece) ≡ take filled into ++ take taken piece
take-filled filled taken k into piece within some =
    let front = take filled into in
    let len : length front ≡ filled = length-take-le filled into within in
    let goes : take (filled + taken) (front ++ (piece ++ post_of filled k into)) ≡ take (length front + taken) (front ++ (piece ++ post_of filled k into)) = ap (λ (n : ℕ). take (n + taken) (front ++ (piece ++ post_of filled k into))) (sym len) in
    goes ∙ take-append-add front (piece ++ post_of filled k into) taken ∙ ap (λ (l : List ℕ). front ++ l) (take-append-le taken piece (post_of filled k into) some)

-- what was taken so far, and what is taken now
pub filled_more : (a b c : Option (List ℕ)) (filled taken k : ℕ) (into piece : List ℕ) → filled ≤ length into → taken ≤ length piece
    → Consumes a b (take filled into) → Consumes b c (take taken piece) → Consumes a c (take (filled + taken) (put_mid filled k into piece))
filled_more a b c filled taken k into piece within some before now =
    subst (Consumes a c) (sym (take-filled filled taken k into piece within some)) (Consumes-trans a b c (take filled into) (take taken piece) before now)

-- a buffer whose front and rest were written
written : (a b : ℕ) (front into later : List ℕ) → a ≡ length front → a ≤ length into → length into ≤ a + b → put_mid a b (put_mid 0 a into front) later ≡ front ++ later
written a b front into later start within all =
    let before : List ℕ = front ++ drop a into in
    let first : take a before ≡ front = take_at front (drop a into) a (sym start) in
    let behind : drop b (drop a before) ≡ [] = ap (drop b) (drop_at front (drop a into) a (sym start)) ∙ drop_all b (drop a into) (omega (arith, length-drop a into)) in
    ap (λ (l : List ℕ). l ++ (later ++ drop b (drop a before))) first
    ∙ ap (λ (l : List ℕ). front ++ (later ++ l)) behind
    ∙ ap (λ (l : List ℕ). front ++ l) (append-nil later)

-- what the source gave behind bytes that were there, where it was asked for `more`
given_behind : (known left : Option (List ℕ)) (front later into : List ℕ) (taken : ℕ) (whole : Bool) → into ≡ front ++ later → taken ≤ length later → Consumes known left (take taken later)
    → (taken < length later → IsAtEnd left) → eqb taken (length later) ≡ whole → IfSome known (λ rest. FilledBehind front into whole rest left)
given_behind None left front later into taken whole parts within took end test = tt
given_behind (Some rest) None front later into taken whole parts within took end test = absurd took
given_behind (Some rest) (Some ys) front later into taken true parts within took end test =
    let all : take taken later ≡ later = take_all taken later (omega (arith, eqb-true _ _ test)) in
    let given : rest ≡ later ++ ys = took ∙ ap (λ (l : List ℕ). l ++ ys) all in
    let more : length into - length front ≡ length later = ap (λ (l : List ℕ). length l - length front) parts ∙ omega (arith, length-append front later) in
    rw (more, given) (omega (arith, length-append later ys), parts ∙ ap (λ (l : List ℕ). front ++ l) (sym (take_at later ys (length later) refl)), ap Some (sym (drop_at later ys (length later) refl)))
given_behind (Some rest) (Some ys) front later into taken false parts within took end test =
    let none : ys ≡ [] = end (omega (arith, eqb-false _ _ test)) in
    let more : length into ≡ length front + length later = ap length parts ∙ length-append front later in
    let size : length rest ≡ length (take taken later) + length ys = ap length took ∙ length-append (take taken later) ys in
    omega (arith, eqb-false _ _ test, length-take-le taken later within, ap length none)

-- the same of the buffer that they were written into; `copy` is what was written to its front, and `more` bytes
-- had room behind it
pub filled_behind : (known left : Option (List ℕ)) (front copy into later : List ℕ) (taken more size : ℕ) → copy ≡ front → length front ≤ length into → more ≡ length into - length front → length later ≡ more → size ≡ more → taken ≤ length later
    → Consumes known left (take taken later) → (taken < length later → IsAtEnd left)
    → IfSome known (λ rest. FilledBehind front (put_mid (length front) more (put_mid 0 (length front) into copy) later) (eqb taken size) rest left)
filled_behind known left front copy into later taken more size same room more_is long size_is within took end =
    let parts : put_mid (length front) more (put_mid 0 (length front) into copy) later ≡ front ++ later =
    written (length front) more copy into later (ap length (sym same)) room (omega arith) ∙ ap (λ (l : List ℕ). l ++ later) same in
    given_behind known left front later _ taken (eqb taken size) parts within took end (ap (eqb taken) (long ∙ sym size_is))
