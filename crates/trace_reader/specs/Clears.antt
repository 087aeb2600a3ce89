-- Commands of clears: the values that they write, and the clears themselves. Opcodes 0x62 to 0x65.
use Rattle.std.specs.Prelude.{ℕ, ◌==◌, [], ◌∷◌, Option, Some, None, if◌then◌else◌}
use Rattle.gl_records.specs.declared.rec.Rec.{Rec}
use Rattle.gl_records.specs.declared.rec.Rec.TheVariants.{ClearColorx, ClearDepthx, ClearStencil, Clear}
use Rattle.trace_reader.specs.declared.shape.Shape.TheVariants.{Exactly}
use Rattle.trace_reader.specs.Command.{Layout, word, signed, fixed, Command, signed_bits, bits}

abbrev pub clears_row : ℕ → Option Layout
clears_row opcode =
    if opcode == 0x62 then Some (Exactly 4, λ n. ClearColorx (fixed n 0) (fixed n 1) (fixed n 2) (fixed n 3)) else
    if opcode == 0x63 then Some (Exactly 1, λ n. ClearDepthx (fixed n 0)) else
    if opcode == 0x64 then Some (Exactly 1, λ n. ClearStencil (signed n 0)) else
    if opcode == 0x65 then Some (Exactly 1, λ n. Clear (word n 0)) else None

abbrev pub clears_spelling : Rec → Option Command
clears_spelling (ClearColorx red green blue alpha) =
    Some (record { opcode = 0x62; words = bits red ∷ bits green ∷ bits blue ∷ bits alpha ∷ []; piece = [] })
clears_spelling (ClearDepthx depth) = Some (record { opcode = 0x63; words = bits depth ∷ []; piece = [] })
clears_spelling (ClearStencil stencil) = Some (record { opcode = 0x64; words = signed_bits stencil ∷ []; piece = [] })
clears_spelling (Clear mask) = Some (record { opcode = 0x65; words = mask ∷ []; piece = [] })
clears_spelling _ = None
