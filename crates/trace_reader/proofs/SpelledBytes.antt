-- What is spelled is bytes.
use Rattle.std.proofs.Common.{◌≡◌, ◌≤◌, ◌<◌, ◌/◌, ◌^◌, ℕ, zero, suc, List, [], ◌∷◌, ◌++◌, length, All, lit<, arith}
use Rattle.std.specs.Prelude.{codes}
use Rattle.std.specs.Int.{bytes_low_first}
use Rattle.std.proofs.Math.Nat.{mod-lt}
use Rattle.std.proofs.lemmas.List.Elements.{All-nil, All-cons, All-append}
use Rattle.byteorder.specs.Endian.{little_bytes}
use Rattle.gl_records.specs.declared.rec.Rec.{Rec}
use Rattle.gl_records.specs.declared.rec.Rec.TheVariants.{End}
use Rattle.gl_records.specs.declared.size.Size.{Size}
use Rattle.trace_reader.specs.Command.{Command}
use Rattle.trace_reader.specs.Lists.{AreWords, words_bytes}
use Rattle.trace_reader.specs.Spelling.{spelling, payload, record_bytes, records_bytes, spell, IsPlain, IsWritable, Fits, IsBytes}

abbrev IsByte : ℕ → Type 0
IsByte byte = byte < 2 ^ 8

joined : (xs ys : List ℕ) → IsBytes xs → IsBytes ys → IsBytes (xs ++ ys)
joined xs ys = All-append IsByte xs ys

little_bytes-from : (i n x : ℕ) → IsBytes (bytes_low_first i n x)
little_bytes-from i zero x = All-nil IsByte
little_bytes-from zero (suc n) x = All-cons IsByte _ _ (mod-lt x (omega arith)) (little_bytes-from 1 n x)
little_bytes-from (suc i) (suc n) x = All-cons IsByte _ _ (mod-lt (x / 256 ^ suc i) (omega arith)) (little_bytes-from (suc (suc i)) n x)

words_bytes-bytes : (ns : List ℕ) → IsBytes (words_bytes ns)
words_bytes-bytes [] = All-nil IsByte
words_bytes-bytes (n ∷ ns) = joined (little_bytes 4 n) (words_bytes ns) (little_bytes-from 0 4 n) (words_bytes-bytes ns)

numbers_then : (n k x y : ℕ) (rest : List ℕ) → IsBytes rest → IsBytes (little_bytes n x ++ (little_bytes k y ++ rest))
numbers_then n k x y rest each = joined (little_bytes n x) (little_bytes k y ++ rest) (little_bytes-from 0 n x) (joined (little_bytes k y) rest (little_bytes-from 0 k y) each)

record_bytes-bytes : (rec : Rec) → IsBytes (spelling rec).piece → IsBytes (record_bytes rec)
record_bytes-bytes rec has =
    let own : List ℕ = payload (spelling rec) in
    let each : IsBytes own = joined (words_bytes (spelling rec).words) (spelling rec).piece (words_bytes-bytes (spelling rec).words) has in
    numbers_then 2 2 (spelling rec).opcode 0 (little_bytes 4 (length own) ++ own) (joined (little_bytes 4 (length own)) own (little_bytes-from 0 4 (length own)) each)

-- the records, and End behind them
records_bytes-bytes : (records : List Rec) → All IsPlain records → IsBytes (records_bytes records)
records_bytes-bytes [] plain = joined (record_bytes End) [] (record_bytes-bytes End (All-nil IsByte)) (All-nil IsByte)
records_bytes-bytes (rec ∷ records) plain =
    let first : IsPlain rec = plain 0 rec (omega arith) in
    joined (record_bytes rec) (records_bytes records) (record_bytes-bytes rec first.back.writable.piece) (records_bytes-bytes records (λ k d lt. plain (suc k) d (omega arith)))

magic-bytes : IsBytes (codes "GLT1")
magic-bytes = first 71 (codes "LT1") (lit< tt) (first 76 (codes "T1") (lit< tt) (first 84 (codes "1") (lit< tt) (first 49 [] (lit< tt) (All-nil IsByte)))) where
  first : (x : ℕ) (xs : List ℕ) → x < 2 ^ 8 → IsBytes xs → IsBytes (x ∷ xs)
  first x xs = All-cons IsByte x xs

pub spell-bytes : (size : Size) (records : List Rec) → Fits size records → IsBytes (spell size records)
spell-bytes size records fits =
    joined (codes "GLT1") (little_bytes 2 size.w ++ (little_bytes 2 size.h ++ records_bytes records)) magic-bytes
    (numbers_then 2 2 size.w size.h (records_bytes records) (records_bytes-bytes records fits.plain))

-- words behind one another, and bytes behind them, are bytes
pub listed-bytes : (list bytes : List ℕ) → IsBytes bytes → IsBytes (words_bytes list ++ bytes)
listed-bytes list bytes each = joined (words_bytes list) bytes (words_bytes-bytes list) each

pub writable : (command : Command) (opcode : ℕ) (words list bytes : List ℕ) → command ≡ record { opcode = opcode; words = words; piece = words_bytes list ++ bytes } → opcode < 2 ^ 16 → AreWords words → length words ≤ 16 → IsBytes bytes → IsWritable command
writable command opcode words list bytes parts opcode_fits words_fit few each =
    rw parts (record { opcode = opcode_fits; words = words_fit; few = few; piece = listed-bytes list bytes each })
