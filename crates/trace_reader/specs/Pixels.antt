-- Commands of how rows of pixels lie in memory. Opcode 0x7B.
use Rattle.std.specs.Prelude.{ℕ, ◌==◌, [], ◌∷◌, Option, Some, None, if◌then◌else◌}
use Rattle.gl_records.specs.declared.rec.Rec.{Rec}
use Rattle.gl_records.specs.declared.rec.Rec.TheVariants.{PixelStorei}
use Rattle.trace_reader.specs.declared.shape.Shape.TheVariants.{Exactly}
use Rattle.trace_reader.specs.Command.{Layout, word, signed, Command, signed_bits}

abbrev pub pixels_row : ℕ → Option Layout
pixels_row opcode =
    if opcode == 0x7B then Some (Exactly 2, λ n. PixelStorei (word n 0) (signed n 1)) else None

abbrev pub pixels_spelling : Rec → Option Command
pixels_spelling (PixelStorei parameter value) =
    Some (record { opcode = 0x7B; words = parameter ∷ signed_bits value ∷ []; piece = [] })
pixels_spelling _ = None
