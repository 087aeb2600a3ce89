-- The table of commands: opcode, length of the payload, and the fields as the payload has them.
use Rattle.std.specs.Prelude.{ℕ, ◌*◌, nat_lt, List, [], drop, Option, if◌then◌else◌}
use Rattle.gl_records.specs.declared.rec.Rec.{Rec}
use Rattle.gl_records.specs.declared.rec.Rec.TheVariants.{ClientBytes, DeleteBuffers, BufferData, BufferSubData, DeleteTextures, TexImage2D, TexSubImage2D, CompressedTexImage2D}
use Rattle.trace_reader.specs.Arrays.{arrays_row}
use Rattle.trace_reader.specs.Blending.{blending_row}
use Rattle.trace_reader.specs.Buffers.{buffers_row}
use Rattle.trace_reader.specs.Clears.{clears_row}
use Rattle.trace_reader.specs.Command.{Layout}
use Rattle.trace_reader.specs.Control.{control_row}
use Rattle.trace_reader.specs.Current.{current_row}
use Rattle.trace_reader.specs.Environments.{environments_row}
use Rattle.trace_reader.specs.Lighting.{lighting_row}
use Rattle.trace_reader.specs.Lists.{words_bytes, words_from}
use Rattle.trace_reader.specs.Matrices.{matrices_row}
use Rattle.trace_reader.specs.Numbers.{words}
use Rattle.trace_reader.specs.Pixels.{pixels_row}
use Rattle.trace_reader.specs.Raster.{raster_row}
use Rattle.trace_reader.specs.Shape.{words_of}
use Rattle.trace_reader.specs.Switches.{switches_row}
use Rattle.trace_reader.specs.Textures.{textures_row}
use Rattle.trace_reader.specs.FragmentTests.{fragment_tests_row}

-- the row of an opcode, a band of opcodes after the other; each band has one group of commands
abbrev pub row : ℕ → Option Layout
row opcode =
    if nat_lt opcode 0x08 then control_row opcode else
    if nat_lt opcode 0x09 then buffers_row opcode else
    if nat_lt opcode 0x10 then textures_row opcode else
    if nat_lt opcode 0x18 then arrays_row opcode else
    if nat_lt opcode 0x1D then current_row opcode else
    if nat_lt opcode 0x20 then arrays_row opcode else
    if nat_lt opcode 0x28 then buffers_row opcode else
    if nat_lt opcode 0x38 then matrices_row opcode else
    if nat_lt opcode 0x48 then raster_row opcode else
    if nat_lt opcode 0x50 then switches_row opcode else
    if nat_lt opcode 0x58 then lighting_row opcode else
    if nat_lt opcode 0x5E then fragment_tests_row opcode else
    if nat_lt opcode 0x61 then blending_row opcode else
    if nat_lt opcode 0x62 then fragment_tests_row opcode else
    if nat_lt opcode 0x70 then clears_row opcode else
    if nat_lt opcode 0x7A then textures_row opcode else
    if nat_lt opcode 0x7B then environments_row opcode else pixels_row opcode

-- the record with this piece, where it has one. A list of words is made of its bytes here.
abbrev pub with_piece : List ℕ → Rec → Rec
with_piece piece (ClientBytes region _) = ClientBytes region piece
with_piece piece (DeleteBuffers _) = DeleteBuffers (words_from piece)
with_piece piece (BufferData target usage size _) = BufferData target usage size piece
with_piece piece (BufferSubData target offset size _) = BufferSubData target offset size piece
with_piece piece (DeleteTextures _) = DeleteTextures (words_from piece)
with_piece piece (TexImage2D target level internal width height border format kind _) =
    TexImage2D target level internal width height border format kind piece
with_piece piece (TexSubImage2D target level x y width height format kind _) =
    TexSubImage2D target level x y width height format kind piece
with_piece piece (CompressedTexImage2D target level internal width height border size _) =
    CompressedTexImage2D target level internal width height border size piece
with_piece piece rec = rec

-- the piece of a record, and no bytes where it has none
abbrev pub piece_of : Rec → List ℕ
piece_of (ClientBytes region piece) = piece
piece_of (DeleteBuffers names) = words_bytes names
piece_of (BufferData target usage size piece) = piece
piece_of (BufferSubData target offset size piece) = piece
piece_of (DeleteTextures names) = words_bytes names
piece_of (TexImage2D target level internal width height border format kind piece) = piece
piece_of (TexSubImage2D target level x y width height format kind piece) = piece
piece_of (CompressedTexImage2D target level internal width height border size piece) = piece
piece_of rec = []

-- the record that a payload makes: of its first sixteen words, zeros past its end, and of the bytes behind the
-- words that the row begins with
abbrev pub record_from : Layout → List ℕ → Rec
record_from layout payload = with_piece (drop (4 * words_of layout.0) payload) (layout.1 (words payload))
