-- What pieces taken from a source one after the other say of the bytes that it had.
use Rattle.std.proofs.Common.{◌≡◌, ◌<◌, ◌+◌, ◌*◌, min, ℕ, zero, suc, List, ◌++◌, length, take, drop, get_or, replicate, Option, Some, None, IfSome, Result, Ok, Err, refl, sym, ap, ◌∙◌, inl, inr, arith}
use Rattle.std.proofs.lemmas.Bool.{cases_lt}
use Rattle.std.proofs.lemmas.List.{same_lists, get_or-drop, get_or-take, get_or_append_left, get_or-append_right, get_or_past, get_or-replicate, length-replicate, get_or_default, length-take, drop-drop}
use Rattle.std.proofs.lemmas.List.FromFn.{get_or-map-range_with_len, length-map-range_with_len}
use Rattle.byteorder.specs.Endian.{little_from, little_number, IsRead}
use Rattle.gl_records.specs.declared.rec.Rec.{Rec}
use Rattle.trace_reader.specs.declared.record.Head.{Head}
use Rattle.trace_reader.specs.declared.record.Stop.{Stop}
use Rattle.trace_reader.specs.declared.record.Stop.TheVariants.{Malformed, Failed, NoMemory}
use Rattle.trace_reader.specs.Numbers.{words}
use Rattle.trace_reader.specs.Steps.{HeadRead, BodyRead, RecordRead}
use Rattle.trace_reader.specs.Trace.{record_at}

-- a number is a matter of its own bytes
little_from-same : (n i : ℕ) (xs ys : List ℕ) → ((k : ℕ) → k < i + n → get_or xs k 0 ≡ get_or ys k 0) → little_from i n xs ≡ little_from i n ys
little_from-same zero i xs ys same = refl
little_from-same (suc n) i xs ys same = rw (same i (omega arith), little_from-same n (suc i) xs ys (λ k lt. same k (omega arith))) refl

-- what is left of zeros are zeros
get_or-drop-zeros : (n count : ℕ) (k : ℕ) → get_or {A = ℕ} (drop n (replicate count 0)) k 0 ≡ 0
get_or-drop-zeros n count k =
    get_or-drop n (replicate count 0) k 0
    ∙ elim (cases_lt (n + k) count) [
      | inl lt ↦ get_or-replicate count (n + k) 0 0 lt
      | inr le ↦ get_or_past (replicate count 0) (n + k) 0 (rw length-replicate le)
    ]

-- sixteen words of bytes that are a payload's as far as the words go
words_read : (bytes payload found : List ℕ) → ((i : ℕ) → i < 64 → get_or bytes i 0 ≡ get_or payload i 0) → length found ≡ 16 → IsRead little_number 4 bytes found → found ≡ words payload
words_read bytes payload found same sixteen read =
    let word : ℕ → ℕ = λ k. little_number 4 (drop (4 * k) payload) in
    let place : (k : ℕ) → k < 16 → (j : ℕ) → j < 0 + 4 → get_or (drop (4 * k) bytes) j 0 ≡ get_or (drop (4 * k) payload) j 0 =
    λ k lt j own. get_or-drop (4 * k) bytes j 0 ∙ same (4 * k + j) (omega arith) ∙ sym (get_or-drop (4 * k) payload j 0) in
    same_lists found (words payload) (sixteen ∙ sym (length-map-range_with_len word 0 16)) (λ k d within.
    get_or_default found k d 0 within ∙ read k within ∙ little_from-same 4 0 _ _ (place k (omega arith))
    ∙ sym (get_or-map-range_with_len word 0 16 k k d (omega arith) (omega arith)))

-- the words of a payload of `len` bytes, of which the first, at most 64, were read before zeros
pub words_taken : (len past : ℕ) (into later found : List ℕ) → length into ≡ min len 64 → length found ≡ 16 → IsRead little_number 4 (into ++ drop past (replicate 64 0)) found → found ≡ words (take len (into ++ later))
words_taken len past into later found size sixteen read =
    words_read (into ++ drop past (replicate 64 0)) (take len (into ++ later)) found (λ i lt.
    elim (cases_lt i (length into)) [
      | inl in_front ↦
          get_or_append_left into (drop past (replicate 64 0)) 0 i in_front
          ∙ sym (get_or-take len (into ++ later) i 0 (omega arith) ∙ get_or_append_left into later 0 i in_front)
      | inr behind ↦
          get_or-append_right into (drop past (replicate 64 0)) (length into) i 0 refl behind
          ∙ get_or-drop-zeros past 64 _
          ∙ sym (get_or_past (take len (into ++ later)) i 0 (omega (arith, length-take len (into ++ later))))
    ]) sixteen read

-- a record is its first eight bytes and what follows them
pub record_read : (known mid left : Option (List ℕ)) (offset : ℕ) (head : Head) (result : Result (Rec × ℕ) Stop) → IfSome known (λ bytes. HeadRead bytes (Ok head) mid)
    → IfSome mid (λ rest. BodyRead offset head rest result left) → IfSome known (λ bytes. RecordRead offset bytes result left)
record_read None mid left offset head result begun done = tt
record_read (Some bytes) None left offset head result begun done = absurd cc
record_read (Some bytes) (Some rest) left offset head (Ok found) begun done =
    let same : rest ≡ drop 8 bytes = cc in
    let is : record_at offset bytes ≡ Ok found = rw (begun.0, ← same) done.0 in
    let moved : drop head.length rest ≡ drop found.1 bytes = rw (same, done.1) (drop-drop head.length 8 bytes) in
    (is, done.2 ∙ ap Some moved)
record_read (Some bytes) (Some rest) left offset head (Err (Malformed cause)) begun done =
    let same : rest ≡ drop 8 bytes = cc in
    rw (begun.0, ← same) done
record_read (Some bytes) (Some rest) left offset head (Err Failed) begun done = tt
record_read (Some bytes) (Some rest) left offset head (Err NoMemory) begun done = rw begun.0 done
