-- Commands that switch capabilities on and off. Opcodes 0x48 and 0x49.
use Rattle.std.specs.Prelude.{ℕ, ◌==◌, [], ◌∷◌, Option, Some, None, if◌then◌else◌}
use Rattle.gl_records.specs.declared.rec.Rec.{Rec}
use Rattle.gl_records.specs.declared.rec.Rec.TheVariants.{Enable, Disable}
use Rattle.trace_reader.specs.declared.shape.Shape.TheVariants.{Exactly}
use Rattle.trace_reader.specs.Command.{Layout, word, Command}

abbrev pub switches_row : ℕ → Option Layout
switches_row opcode =
    if opcode == 0x48 then Some (Exactly 1, λ n. Enable (word n 0)) else
    if opcode == 0x49 then Some (Exactly 1, λ n. Disable (word n 0)) else None

abbrev pub switches_spelling : Rec → Option Command
switches_spelling (Enable capability) = Some (record { opcode = 0x48; words = capability ∷ []; piece = [] })
switches_spelling (Disable capability) = Some (record { opcode = 0x49; words = capability ∷ []; piece = [] })
switches_spelling _ = None
