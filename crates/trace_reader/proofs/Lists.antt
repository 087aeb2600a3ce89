-- Lists of words: what is written is read again.
use Rattle.std.proofs.Common.{◌≡◌, ◌≤◌, ◌<◌, ◌+◌, ◌*◌, ◌/◌, ◌%◌, ℕ, List, [], ◌++◌, length, take, drop, get_or, eqb, All, refl, sym, ap, ◌∙◌, arith}
use Rattle.std.proofs.lemmas.List.{same_lists, get_or_default, drop-append-le, append-nil, length-take-le, length-drop, take-append-drop}
use Rattle.std.proofs.lemmas.List.FromFn.{get_or-map-range_with_len, length-map-range_with_len}
use Rattle.byteorder.specs.Endian.{little_number, IsRead}
use Rattle.byteorder.specs.Numbers.{little_from-append}
use Rattle.gl_records.specs.declared.rec.Rec.TheVariants.{DeleteBuffers, DeleteTextures}
use Rattle.trace_reader.specs.Lists.{AreWords, words_bytes, words_from}
use Rattle.trace_reader.specs.Spelling.{Gives}
use Rattle.trace_reader.proofs.Bytes.{word_at-words_bytes, length-words_bytes}

-- word k of bytes
abbrev word_at : List ℕ → ℕ → ℕ
word_at bytes k = little_number 4 (drop (4 * k) bytes)

-- a word that ends before a place is in the bytes before it
word_at-take : (bytes : List ℕ) (n k : ℕ) → 4 * k + 4 ≤ n → n ≤ length bytes → word_at (take n bytes) k ≡ word_at bytes k
word_at-take bytes n k before within =
    let front : List ℕ = take n bytes in
    let size : length front ≡ n = length-take-le n bytes within in
    let parts : drop (4 * k) bytes ≡ drop (4 * k) front ++ drop n bytes =
    ap (drop (4 * k)) (sym (take-append-drop n bytes)) ∙ drop-append-le (4 * k) front (drop n bytes) (omega arith) in
    sym (ap (little_number 4) parts ∙ little_from-append 4 (drop (4 * k) front) (drop n bytes) (omega (arith, length-drop (4 * k) front)))

pub words_are : (bytes words : List ℕ) (n : ℕ) → length words ≡ length bytes / 4 → n ≡ 4 * length words → IsRead little_number 4 (take n bytes) words → words ≡ words_from bytes
words_are bytes words n count end read =
    let m : ℕ = length bytes / 4 in
    same_lists words (words_from bytes) (count ∙ sym (length-map-range_with_len (word_at bytes) 0 m)) (λ k d within.
    get_or_default words k d 0 within
    ∙ read k within
    ∙ word_at-take bytes n k (omega arith) (omega arith)
    ∙ sym (get_or-map-range_with_len (word_at bytes) 0 m k k d (omega arith) (omega arith)))

pub words_from-words_bytes : (words : List ℕ) → AreWords words → words_from (words_bytes words) ≡ words
words_from-words_bytes words fits =
    let bytes : List ℕ = words_bytes words in
    let m : ℕ = length bytes / 4 in
    let count : length (words_from bytes) ≡ length words = length-map-range_with_len (word_at bytes) 0 m ∙ omega (arith, length-words_bytes words) in
    same_lists (words_from bytes) words count (λ k d within.
    let lt : k < length words = omega arith in
    get_or-map-range_with_len (word_at bytes) 0 m k k d (omega (arith, length-words_bytes words)) (omega arith)
    ∙ ap (λ (own : List ℕ). word_at own k) (sym (append-nil bytes))
    ∙ word_at-words_bytes words [] k lt (fits k 0 lt)
    ∙ sym (get_or_default words k d 0 lt))

whole_words : (words : List ℕ) → (4 * 0 + length (words_bytes words)) % 4 ≡ 0
whole_words words = omega (arith, length-words_bytes words)

pub given_buffers : (names : List ℕ) → AreWords names → Gives 0x21 [] (words_bytes names) (DeleteBuffers names)
given_buffers names fits = record { made = (refl, ap (λ (rest : ℕ). eqb rest 0) (whole_words names), λ later. ap DeleteBuffers (words_from-words_bytes names fits)) }

pub given_textures : (names : List ℕ) → AreWords names → Gives 0x71 [] (words_bytes names) (DeleteTextures names)
given_textures names fits = record { made = (refl, ap (λ (rest : ℕ). eqb rest 0) (whole_words names), λ later. ap DeleteTextures (words_from-words_bytes names fits)) }

-- a bound of each place is one of all elements
pub all_below : (bound : ℕ) (xs : List ℕ) → ((k : ℕ) → get_or xs k 0 < bound) → All (λ x. x < bound) xs
all_below bound xs each k d lt = rw (get_or_default xs k d 0 lt) (each k)
