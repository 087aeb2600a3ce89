-- Commands of the whole trace: its end, presenting the surface, the error flag, and queries. Opcodes 0x01 to 0x07.
use Rattle.std.specs.Prelude.{ℕ, ◌==◌, [], ◌∷◌, Option, Some, None, if◌then◌else◌}
use Rattle.gl_records.specs.declared.rec.Rec.{Rec}
use Rattle.gl_records.specs.declared.rec.Rec.TheVariants.{End, Swap, Flush, GetError, Get, IsEnabled}
use Rattle.trace_reader.specs.declared.shape.Shape.TheVariants.{Exactly}
use Rattle.trace_reader.specs.Command.{Layout, word, Command}

abbrev pub control_row : ℕ → Option Layout
control_row opcode =
    if opcode == 0x01 then Some (Exactly 0, λ n. End) else
    if opcode == 0x02 then Some (Exactly 0, λ n. Swap) else
    if opcode == 0x04 then Some (Exactly 0, λ n. Flush) else
    if opcode == 0x05 then Some (Exactly 0, λ n. GetError) else
    if opcode == 0x06 then Some (Exactly 1, λ n. Get (word n 0)) else
    if opcode == 0x07 then Some (Exactly 1, λ n. IsEnabled (word n 0)) else None

abbrev pub control_spelling : Rec → Option Command
control_spelling End = Some (record { opcode = 0x01; words = []; piece = [] })
control_spelling Swap = Some (record { opcode = 0x02; words = []; piece = [] })
control_spelling Flush = Some (record { opcode = 0x04; words = []; piece = [] })
control_spelling GetError = Some (record { opcode = 0x05; words = []; piece = [] })
control_spelling (Get query) = Some (record { opcode = 0x06; words = query ∷ []; piece = [] })
control_spelling (IsEnabled capability) = Some (record { opcode = 0x07; words = capability ∷ []; piece = [] })
control_spelling _ = None
