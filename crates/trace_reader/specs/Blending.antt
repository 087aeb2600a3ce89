-- Commands of what a fragment makes of the colour that is there. Opcodes 0x5E to 0x60.
use Rattle.std.specs.Prelude.{ℕ, ◌==◌, [], ◌∷◌, Option, Some, None, if◌then◌else◌}
use Rattle.gl_records.specs.declared.rec.Rec.{Rec}
use Rattle.gl_records.specs.declared.rec.Rec.TheVariants.{BlendFunc, LogicOp, ColorMask}
use Rattle.trace_reader.specs.declared.shape.Shape.TheVariants.{Exactly}
use Rattle.trace_reader.specs.Command.{Layout, word, truth, Command, truth_bits}

abbrev pub blending_row : ℕ → Option Layout
blending_row opcode =
    if opcode == 0x5E then Some (Exactly 2, λ n. BlendFunc (word n 0) (word n 1)) else
    if opcode == 0x5F then Some (Exactly 1, λ n. LogicOp (word n 0)) else
    if opcode == 0x60 then Some (Exactly 4, λ n. ColorMask (truth n 0) (truth n 1) (truth n 2) (truth n 3)) else None

abbrev pub blending_spelling : Rec → Option Command
blending_spelling (BlendFunc source destination) =
    Some (record { opcode = 0x5E; words = source ∷ destination ∷ []; piece = [] })
blending_spelling (LogicOp operation) = Some (record { opcode = 0x5F; words = operation ∷ []; piece = [] })
blending_spelling (ColorMask red green blue alpha) =
    Some (record { opcode = 0x60; words = truth_bits red ∷ truth_bits green ∷ truth_bits blue ∷ truth_bits alpha ∷ []; piece = [] })
blending_spelling _ = None
