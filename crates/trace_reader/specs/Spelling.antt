-- The spelling of records, and of a size and a list of records: bytes that are read as these.
use Rattle.std.specs.Prelude.{◌≡◌, ◌≢◌, ◌≤◌, ◌<◌, ℕ, ◌+◌, ◌*◌, ◌^◌, true, List, [], ◌∷◌, ◌++◌, length, All, unwrap_or, IsSomeAnd, codes}
use Rattle.std.specs.List.{flat_map}
use Rattle.byteorder.specs.Endian.{little_bytes}
use Rattle.gl_records.specs.declared.rec.Rec.{Rec}
use Rattle.gl_records.specs.declared.rec.Rec.TheVariants.{End}
use Rattle.gl_records.specs.declared.size.Size.{Size}
use Rattle.gl_records.specs.Size.{IsSize}
use Rattle.trace_reader.specs.Arrays.{arrays_spelling}
use Rattle.trace_reader.specs.Blending.{blending_spelling}
use Rattle.trace_reader.specs.Buffers.{buffers_spelling}
use Rattle.trace_reader.specs.Clears.{clears_spelling}
use Rattle.trace_reader.specs.Command.{Command}
use Rattle.trace_reader.specs.Control.{control_spelling}
use Rattle.trace_reader.specs.Current.{current_spelling}
use Rattle.trace_reader.specs.Environments.{environments_spelling}
use Rattle.trace_reader.specs.Lighting.{lighting_spelling}
use Rattle.trace_reader.specs.Lists.{AreWords, words_bytes}
use Rattle.trace_reader.specs.Matrices.{matrices_spelling}
use Rattle.trace_reader.specs.Pixels.{pixels_spelling}
use Rattle.trace_reader.specs.Raster.{raster_spelling}
use Rattle.trace_reader.specs.Shape.{words_of, allows}
use Rattle.trace_reader.specs.Switches.{switches_spelling}
use Rattle.trace_reader.specs.Table.{row, with_piece}
use Rattle.trace_reader.specs.Textures.{textures_spelling}
use Rattle.trace_reader.specs.FragmentTests.{fragment_tests_spelling}
use Rattle.trace_reader.specs.Trace.{greatest_payload, greatest_trace}

-- the command of a record: that of its group. Each record is of one group, so none is spelled with opcode 0.
abbrev pub spelling : Rec → Command
spelling rec =
    unwrap_or (control_spelling rec) (
    unwrap_or (arrays_spelling rec) (
    unwrap_or (current_spelling rec) (
    unwrap_or (buffers_spelling rec) (
    unwrap_or (matrices_spelling rec) (
    unwrap_or (raster_spelling rec) (
    unwrap_or (switches_spelling rec) (
    unwrap_or (lighting_spelling rec) (
    unwrap_or (fragment_tests_spelling rec) (
    unwrap_or (blending_spelling rec) (
    unwrap_or (clears_spelling rec) (
    unwrap_or (textures_spelling rec) (
    unwrap_or (environments_spelling rec) (
    unwrap_or (pixels_spelling rec) (record { opcode = 0; words = []; piece = [] }))))))))))))))

-- a list of numbers that are bytes
abbrev pub IsBytes : List ℕ → Type 0
IsBytes bytes = All (λ byte. byte < 2 ^ 8) bytes

-- a command that can be written: its opcode has 16 bits, its words, at most 16, have 32, and its piece is bytes
pub record IsWritable (command : Command) : Type 0 where
  pub opcode : command.opcode < 2 ^ 16
  pub words : AreWords command.words
  pub few : length command.words ≤ 16
  pub piece : IsBytes command.piece

-- the row of an opcode gives the record: it allows a payload of these words and this piece, and makes the record of
-- the words, whatever words follow them, and of the piece
pub record Gives (opcode : ℕ) (words piece : List ℕ) (rec : Rec) : Type 0 where
  pub made : IsSomeAnd (row opcode) (λ layout.
      (words_of layout.0 ≡ length words) × (allows layout.0 (4 * length words + length piece) ≡ true)
      × ((later : List ℕ) → with_piece piece (layout.1 (words ++ later)) ≡ rec))

-- the command can be written, and reads back as the record
pub record ReadsBack (rec : Rec) (command : Command) : Type 0 where
  pub writable : IsWritable command
  pub gives : Gives command.opcode command.words command.piece rec

-- the words and the piece
abbrev pub payload : Command → List ℕ
payload command = words_bytes command.words ++ command.piece

-- the opcode, a word that is 0, the payload's length, and the payload
abbrev pub command_bytes : Command → List ℕ
command_bytes command =
    little_bytes 2 command.opcode ++ little_bytes 2 0 ++ little_bytes 4 (length (payload command)) ++ payload command

abbrev pub record_bytes : Rec → List ℕ
record_bytes rec = command_bytes (spelling rec)

-- the records, and End behind them
abbrev pub records_bytes : List Rec → List ℕ
records_bytes records = flat_map record_bytes (records ++ End ∷ [])

-- the header and the records
abbrev pub spell : Size → List Rec → List ℕ
spell size records = codes "GLT1" ++ little_bytes 2 size.w ++ little_bytes 2 size.h ++ records_bytes records

-- a record that may stand before End: it reads back, and there is room for its payload
pub record IsPlain (rec : Rec) : Type 0 where
  pub plain : rec ≢ End
  pub back : ReadsBack rec (spelling rec)
  pub short : length (payload (spelling rec)) ≤ greatest_payload

-- what has a spelling
pub record Fits (size : Size) (records : List Rec) : Type 0 where
  pub sides : IsSize size
  pub plain : All IsPlain records
  pub within : length (spell size records) ≤ greatest_trace
