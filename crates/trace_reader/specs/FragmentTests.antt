-- Commands of the tests that a fragment has to pass. Opcodes 0x58 to 0x5D, and 0x61.
use Rattle.std.specs.Prelude.{ℕ, ◌==◌, [], ◌∷◌, Option, Some, None, if◌then◌else◌}
use Rattle.gl_records.specs.declared.rec.Rec.{Rec}
use Rattle.gl_records.specs.declared.rec.Rec.TheVariants.{AlphaFuncx, StencilFunc, StencilOp, StencilMask, DepthFunc, DepthMask, Scissor}
use Rattle.trace_reader.specs.declared.shape.Shape.TheVariants.{Exactly}
use Rattle.trace_reader.specs.Command.{Layout, word, signed, fixed, truth, Command, signed_bits, bits, truth_bits}

abbrev pub fragment_tests_row : ℕ → Option Layout
fragment_tests_row opcode =
    if opcode == 0x58 then Some (Exactly 2, λ n. AlphaFuncx (word n 0) (fixed n 1)) else
    if opcode == 0x59 then Some (Exactly 3, λ n. StencilFunc (word n 0) (signed n 1) (word n 2)) else
    if opcode == 0x5A then Some (Exactly 3, λ n. StencilOp (word n 0) (word n 1) (word n 2)) else
    if opcode == 0x5B then Some (Exactly 1, λ n. StencilMask (word n 0)) else
    if opcode == 0x5C then Some (Exactly 1, λ n. DepthFunc (word n 0)) else
    if opcode == 0x5D then Some (Exactly 1, λ n. DepthMask (truth n 0)) else
    if opcode == 0x61 then Some (Exactly 4, λ n. Scissor (signed n 0) (signed n 1) (signed n 2) (signed n 3)) else None

abbrev pub fragment_tests_spelling : Rec → Option Command
fragment_tests_spelling (AlphaFuncx comparison reference) =
    Some (record { opcode = 0x58; words = comparison ∷ bits reference ∷ []; piece = [] })
fragment_tests_spelling (StencilFunc comparison reference mask) =
    Some (record { opcode = 0x59; words = comparison ∷ signed_bits reference ∷ mask ∷ []; piece = [] })
fragment_tests_spelling (StencilOp stencil_fail depth_fail depth_pass) =
    Some (record { opcode = 0x5A; words = stencil_fail ∷ depth_fail ∷ depth_pass ∷ []; piece = [] })
fragment_tests_spelling (StencilMask mask) = Some (record { opcode = 0x5B; words = mask ∷ []; piece = [] })
fragment_tests_spelling (DepthFunc comparison) = Some (record { opcode = 0x5C; words = comparison ∷ []; piece = [] })
fragment_tests_spelling (DepthMask write) = Some (record { opcode = 0x5D; words = truth_bits write ∷ []; piece = [] })
fragment_tests_spelling (Scissor x y width height) =
    Some (record { opcode = 0x61; words = signed_bits x ∷ signed_bits y ∷ signed_bits width ∷ signed_bits height ∷ []; piece = [] })
fragment_tests_spelling _ = None
