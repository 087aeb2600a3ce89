-- Commands of the matrix stacks. Opcodes 0x28 to 0x32.
use Rattle.std.specs.Prelude.{ℕ, ◌==◌, [], ◌∷◌, Option, Some, None, if◌then◌else◌}
use Rattle.gl_records.specs.declared.rec.Rec.{Rec}
use Rattle.gl_records.specs.declared.rec.Rec.TheVariants.{MatrixMode, LoadIdentity, LoadMatrixx, MultMatrixx, PushMatrix, PopMatrix, Rotatex, Scalex, Translatex, Frustumx, Orthox}
use Rattle.trace_reader.specs.declared.shape.Shape.TheVariants.{Exactly}
use Rattle.trace_reader.specs.Command.{Layout, word, fixed, columns, Command, bits}

abbrev pub matrices_row : ℕ → Option Layout
matrices_row opcode =
    if opcode == 0x28 then Some (Exactly 1, λ n. MatrixMode (word n 0)) else
    if opcode == 0x29 then Some (Exactly 0, λ n. LoadIdentity) else
    if opcode == 0x2A then Some (Exactly 16, λ n. LoadMatrixx (columns n)) else
    if opcode == 0x2B then Some (Exactly 16, λ n. MultMatrixx (columns n)) else
    if opcode == 0x2C then Some (Exactly 0, λ n. PushMatrix) else
    if opcode == 0x2D then Some (Exactly 0, λ n. PopMatrix) else
    if opcode == 0x2E then Some (Exactly 4, λ n. Rotatex (fixed n 0) (fixed n 1) (fixed n 2) (fixed n 3)) else
    if opcode == 0x2F then Some (Exactly 3, λ n. Scalex (fixed n 0) (fixed n 1) (fixed n 2)) else
    if opcode == 0x30 then Some (Exactly 3, λ n. Translatex (fixed n 0) (fixed n 1) (fixed n 2)) else
    if opcode == 0x31 then Some (Exactly 6, λ n. Frustumx (fixed n 0) (fixed n 1) (fixed n 2) (fixed n 3) (fixed n 4) (fixed n 5)) else
    if opcode == 0x32 then Some (Exactly 6, λ n. Orthox (fixed n 0) (fixed n 1) (fixed n 2) (fixed n 3) (fixed n 4) (fixed n 5)) else None

abbrev pub matrices_spelling : Rec → Option Command
matrices_spelling (MatrixMode mode) = Some (record { opcode = 0x28; words = mode ∷ []; piece = [] })
matrices_spelling LoadIdentity = Some (record { opcode = 0x29; words = []; piece = [] })
matrices_spelling (LoadMatrixx columns) =
    Some (record { opcode = 0x2A; words = bits columns.0.0 ∷ bits columns.0.1 ∷ bits columns.0.2 ∷ bits columns.0.3 ∷ bits columns.1.0 ∷ bits columns.1.1 ∷ bits columns.1.2 ∷ bits columns.1.3 ∷ bits columns.2.0 ∷ bits columns.2.1 ∷ bits columns.2.2 ∷ bits columns.2.3 ∷ bits columns.3.0 ∷ bits columns.3.1 ∷ bits columns.3.2 ∷ bits columns.3.3 ∷ []; piece = [] })
matrices_spelling (MultMatrixx columns) =
    Some (record { opcode = 0x2B; words = bits columns.0.0 ∷ bits columns.0.1 ∷ bits columns.0.2 ∷ bits columns.0.3 ∷ bits columns.1.0 ∷ bits columns.1.1 ∷ bits columns.1.2 ∷ bits columns.1.3 ∷ bits columns.2.0 ∷ bits columns.2.1 ∷ bits columns.2.2 ∷ bits columns.2.3 ∷ bits columns.3.0 ∷ bits columns.3.1 ∷ bits columns.3.2 ∷ bits columns.3.3 ∷ []; piece = [] })
matrices_spelling PushMatrix = Some (record { opcode = 0x2C; words = []; piece = [] })
matrices_spelling PopMatrix = Some (record { opcode = 0x2D; words = []; piece = [] })
matrices_spelling (Rotatex angle x y z) = Some (record { opcode = 0x2E; words = bits angle ∷ bits x ∷ bits y ∷ bits z ∷ []; piece = [] })
matrices_spelling (Scalex x y z) = Some (record { opcode = 0x2F; words = bits x ∷ bits y ∷ bits z ∷ []; piece = [] })
matrices_spelling (Translatex x y z) = Some (record { opcode = 0x30; words = bits x ∷ bits y ∷ bits z ∷ []; piece = [] })
matrices_spelling (Frustumx left right bottom top near far) =
    Some (record { opcode = 0x31; words = bits left ∷ bits right ∷ bits bottom ∷ bits top ∷ bits near ∷ bits far ∷ []; piece = [] })
matrices_spelling (Orthox left right bottom top near far) =
    Some (record { opcode = 0x32; words = bits left ∷ bits right ∷ bits bottom ∷ bits top ∷ bits near ∷ bits far ∷ []; piece = [] })
matrices_spelling _ = None
