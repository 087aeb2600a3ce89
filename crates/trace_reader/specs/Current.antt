-- Commands of what later vertices take where no array gives it. Opcodes 0x18 to 0x1C.
use Rattle.std.specs.Prelude.{ℕ, ◌==◌, [], ◌∷◌, Option, Some, None, if◌then◌else◌}
use Rattle.gl_records.specs.declared.rec.Rec.{Rec}
use Rattle.gl_records.specs.declared.rec.Rec.TheVariants.{ActiveTexture, Color4x, Color4ub, Normal3x, MultiTexCoord4x}
use Rattle.trace_reader.specs.declared.shape.Shape.TheVariants.{Exactly}
use Rattle.trace_reader.specs.Command.{Layout, word, fixed, byte, Command, bits, bytes_bits}

abbrev pub current_row : ℕ → Option Layout
current_row opcode =
    if opcode == 0x18 then Some (Exactly 1, λ n. ActiveTexture (word n 0)) else
    if opcode == 0x19 then Some (Exactly 4, λ n. Color4x (fixed n 0) (fixed n 1) (fixed n 2) (fixed n 3)) else
    if opcode == 0x1A then Some (Exactly 1, λ n. Color4ub (byte n 0 0) (byte n 0 1) (byte n 0 2) (byte n 0 3)) else
    if opcode == 0x1B then Some (Exactly 3, λ n. Normal3x (fixed n 0) (fixed n 1) (fixed n 2)) else
    if opcode == 0x1C then Some (Exactly 5, λ n. MultiTexCoord4x (word n 0) (fixed n 1) (fixed n 2) (fixed n 3) (fixed n 4)) else None

abbrev pub current_spelling : Rec → Option Command
current_spelling (ActiveTexture texture) = Some (record { opcode = 0x18; words = texture ∷ []; piece = [] })
current_spelling (Color4x red green blue alpha) =
    Some (record { opcode = 0x19; words = bits red ∷ bits green ∷ bits blue ∷ bits alpha ∷ []; piece = [] })
current_spelling (Color4ub red green blue alpha) =
    Some (record { opcode = 0x1A; words = bytes_bits red green blue alpha ∷ []; piece = [] })
current_spelling (Normal3x x y z) = Some (record { opcode = 0x1B; words = bits x ∷ bits y ∷ bits z ∷ []; piece = [] })
current_spelling (MultiTexCoord4x texture s t r q) =
    Some (record { opcode = 0x1C; words = texture ∷ bits s ∷ bits t ∷ bits r ∷ bits q ∷ []; piece = [] })
current_spelling _ = None
