-- Words one after the other, as the numbers that are read from their bytes.
use Rattle.std.proofs.Common.{◌≡◌, ◌≤◌, ◌<◌, ◌*◌, ◌^◌, ℕ, zero, suc, List, [], ◌∷◌, ◌++◌, length, take, drop, get_or, refl, sym, ap, ◌∙◌, arith}
use Rattle.std.proofs.lemmas.List.{same_lists, get_or-take, get_or_default, length-append, length-take-le, take-append-drop}
use Rattle.std.proofs.lemmas.List.FromFn.{get_or-map-range_with_len, length-map-range_with_len}
use Rattle.byteorder.specs.Endian.{little_number, little_bytes}
use Rattle.byteorder.specs.Numbers.{little_number-reads_back}
use Rattle.trace_reader.specs.Numbers.{words}
use Rattle.trace_reader.specs.Lists.{AreWords, words_bytes}

-- word k of a payload
abbrev word_at : List ℕ → ℕ → ℕ
word_at payload k = little_number 4 (drop (4 * k) payload)

pub length-words_bytes : (ns : List ℕ) → length (words_bytes ns) ≡ 4 * length ns
length-words_bytes [] = refl
length-words_bytes (n ∷ ns) = omega (arith, length-append (little_bytes 4 n) (words_bytes ns), length-words_bytes ns)

-- word k of words that were written one after the other, before a piece
pub word_at-words_bytes : (ns piece : List ℕ) (k : ℕ) → k < length ns → get_or ns k 0 < 256 ^ 4 → word_at (words_bytes ns ++ piece) k ≡ get_or ns k 0
word_at-words_bytes [] piece k within fits = absurd (omega arith)
word_at-words_bytes (n ∷ ns) piece zero within fits = little_number-reads_back 4 n (words_bytes ns ++ piece) fits
word_at-words_bytes (n ∷ ns) piece (suc k) within fits =
    let behind : 4 * suc k ≡ suc (suc (suc (suc (4 * k)))) = omega arith in
    ap (λ (m : ℕ). little_number 4 (drop m (words_bytes (n ∷ ns) ++ piece))) behind ∙ word_at-words_bytes ns piece k (omega arith) fits

-- at most sixteen words that were written begin the words that are read
pub words-words_bytes : (ns piece : List ℕ) → AreWords ns → length ns ≤ 16 → words (words_bytes ns ++ piece) ≡ ns ++ drop (length ns) (words (words_bytes ns ++ piece))
words-words_bytes ns piece fits few =
    let payload : List ℕ = words_bytes ns ++ piece in
    let sixteen : length (words payload) ≡ 16 = length-map-range_with_len (word_at payload) 0 16 in
    let front : take (length ns) (words payload) ≡ ns =
    same_lists (take (length ns) (words payload)) ns (length-take-le (length ns) (words payload) (omega arith)) (λ k d within.
    let lt : k < length ns = omega (arith, length-take-le (length ns) (words payload) (omega arith)) in
    get_or-take (length ns) (words payload) k d lt
    ∙ get_or-map-range_with_len (word_at payload) 0 16 k k d (omega arith) (omega arith)
    ∙ word_at-words_bytes ns piece k lt (fits k 0 lt)
    ∙ sym (get_or_default ns k d 0 lt)) in
    sym (take-append-drop (length ns) (words payload)) ∙ ap (λ (own : List ℕ). own ++ drop (length ns) (words payload)) front
