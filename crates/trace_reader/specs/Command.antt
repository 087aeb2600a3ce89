-- A command as it lies in a trace, and how its payload's words are fields of a record.
use Rattle.std.specs.Prelude.{ℕ, ◌+◌, ℤ, Bool, not, ◌==◌, List, [], ◌∷◌, Option, option_map, slice_index, if◌then◌else◌}
use Rattle.std.specs.Int.{w32, cast_signed, cast_unsigned, from_le_bytes, to_le_bytes}
use Rattle.fx_arith.specs.declared.fx.Fx.{Fx}
use Rattle.gl_records.specs.declared.params.Columns.{Columns}
use Rattle.gl_records.specs.declared.params.Params.{Params}
use Rattle.gl_records.specs.declared.rec.Rec.{Rec}
use Rattle.trace_reader.specs.declared.shape.Shape.{Shape}

-- how a command's payload is laid out: its length, and the record that its words make. A piece is empty there.
abbrev pub Layout : Type 0
Layout = Shape × (List ℕ → Rec)

-- a row, with the record that these words make
abbrev pub with_words : List ℕ → Option Layout → Option (Shape × Rec)
with_words n found = option_map (λ layout. (layout.0, layout.1 n)) found

-- word k of the words n
abbrev pub word : List ℕ → ℕ → ℕ
word n k = slice_index n k

-- word k as a number with a sign, in two's complement
abbrev pub signed : List ℕ → ℕ → ℤ
signed n k = cast_signed w32 (slice_index n k)

-- word k as a GLfixed
abbrev pub fixed : List ℕ → ℕ → Fx
fixed n k = record { 0 = cast_signed w32 (slice_index n k) }

-- the four words from k on as the numbers of a parameter
abbrev pub params : List ℕ → ℕ → Params
params n k = record { 0 = fixed n k; 1 = fixed n (k + 1); 2 = fixed n (k + 2); 3 = fixed n (k + 3) }

-- the sixteen words as the columns of a matrix
abbrev pub columns : List ℕ → Columns
columns n = record { 0 = params n 0; 1 = params n 4; 2 = params n 8; 3 = params n 12 }

-- word k as a truth value: each word but 0 is true
abbrev pub truth : List ℕ → ℕ → Bool
truth n k = not (slice_index n k == 0)

-- a byte of word k, the lowest first
abbrev pub byte : List ℕ → ℕ → ℕ → ℕ
byte n k place = slice_index (to_le_bytes w32 (slice_index n k)) place

-- a command as it is written: the opcode, the words that its payload begins with, and the bytes behind them
pub record Command : Type 0 where
  pub opcode : ℕ
  pub words : List ℕ
  pub piece : List ℕ

-- a number with a sign as a word of 32 bits, in two's complement
abbrev pub signed_bits : ℤ → ℕ
signed_bits number = cast_unsigned w32 number

-- the same of a GLfixed
abbrev pub bits : Fx → ℕ
bits number = cast_unsigned w32 number.0

-- a truth value as a word, 0 or 1
abbrev pub truth_bits : Bool → ℕ
truth_bits flag = if flag then 1 else 0

-- four bytes as a word, the lowest first
abbrev pub bytes_bits : ℕ → ℕ → ℕ → ℕ → ℕ
bytes_bits first second third fourth = from_le_bytes w32 (first ∷ second ∷ third ∷ fourth ∷ [])
