-- Commands of texture environments. Opcode 0x7A.
use Rattle.std.specs.Prelude.{ℕ, ◌==◌, [], ◌∷◌, Option, Some, None, if◌then◌else◌}
use Rattle.gl_records.specs.declared.rec.Rec.{Rec}
use Rattle.gl_records.specs.declared.rec.Rec.TheVariants.{TexEnvx}
use Rattle.trace_reader.specs.declared.shape.Shape.TheVariants.{Exactly}
use Rattle.trace_reader.specs.Command.{Layout, word, params, Command, bits}

abbrev pub environments_row : ℕ → Option Layout
environments_row opcode =
    if opcode == 0x7A then Some (Exactly 6, λ n. TexEnvx (word n 0) (word n 1) (params n 2)) else None

abbrev pub environments_spelling : Rec → Option Command
environments_spelling (TexEnvx target parameter values) =
    Some (record { opcode = 0x7A; words = target ∷ parameter ∷ bits values.0 ∷ bits values.1 ∷ bits values.2 ∷ bits values.3 ∷ []; piece = [] })
environments_spelling _ = None
