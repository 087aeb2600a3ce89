-- Commands of buffer objects. Opcodes 0x08 and 0x20 to 0x24.
use Rattle.std.specs.Prelude.{ℕ, ◌==◌, [], ◌∷◌, Option, Some, None, if◌then◌else◌}
use Rattle.gl_records.specs.declared.rec.Rec.{Rec}
use Rattle.gl_records.specs.declared.rec.Rec.TheVariants.{IsBuffer, GenBuffers, DeleteBuffers, BindBuffer, BufferData, BufferSubData}
use Rattle.trace_reader.specs.declared.shape.Shape.TheVariants.{Exactly, AtLeast, Words}
use Rattle.trace_reader.specs.Command.{Layout, word, signed, Command, signed_bits}
use Rattle.trace_reader.specs.Lists.{words_bytes}

abbrev pub buffers_row : ℕ → Option Layout
buffers_row opcode =
    if opcode == 0x08 then Some (Exactly 1, λ n. IsBuffer (word n 0)) else
    if opcode == 0x20 then Some (Exactly 1, λ n. GenBuffers (signed n 0)) else
    if opcode == 0x21 then Some (Words, λ n. DeleteBuffers []) else
    if opcode == 0x22 then Some (Exactly 2, λ n. BindBuffer (word n 0) (word n 1)) else
    if opcode == 0x23 then Some (AtLeast 3, λ n. BufferData (word n 0) (word n 1) (signed n 2) []) else
    if opcode == 0x24 then Some (AtLeast 3, λ n. BufferSubData (word n 0) (signed n 1) (signed n 2) []) else None

abbrev pub buffers_spelling : Rec → Option Command
buffers_spelling (IsBuffer name) = Some (record { opcode = 0x08; words = name ∷ []; piece = [] })
buffers_spelling (GenBuffers count) = Some (record { opcode = 0x20; words = signed_bits count ∷ []; piece = [] })
buffers_spelling (DeleteBuffers names) = Some (record { opcode = 0x21; words = []; piece = words_bytes names })
buffers_spelling (BindBuffer target name) = Some (record { opcode = 0x22; words = target ∷ name ∷ []; piece = [] })
buffers_spelling (BufferData target usage size piece) =
    Some (record { opcode = 0x23; words = target ∷ usage ∷ signed_bits size ∷ []; piece = piece })
buffers_spelling (BufferSubData target offset size piece) =
    Some (record { opcode = 0x24; words = target ∷ signed_bits offset ∷ signed_bits size ∷ []; piece = piece })
buffers_spelling _ = None
