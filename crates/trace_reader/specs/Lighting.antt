-- Commands of fog, of lights, of the lighting model and of the material. Opcodes 0x50 to 0x54.
use Rattle.std.specs.Prelude.{ℕ, ◌==◌, [], ◌∷◌, Option, Some, None, if◌then◌else◌}
use Rattle.gl_records.specs.declared.rec.Rec.{Rec}
use Rattle.gl_records.specs.declared.rec.Rec.TheVariants.{Fogx, Lightx, LightModelx, Materialx}
use Rattle.trace_reader.specs.declared.shape.Shape.TheVariants.{Exactly}
use Rattle.trace_reader.specs.Command.{Layout, word, params, Command, bits}

abbrev pub lighting_row : ℕ → Option Layout
lighting_row opcode =
    if opcode == 0x50 then Some (Exactly 5, λ n. Fogx (word n 0) (params n 1)) else
    if opcode == 0x52 then Some (Exactly 6, λ n. Lightx (word n 0) (word n 1) (params n 2)) else
    if opcode == 0x53 then Some (Exactly 5, λ n. LightModelx (word n 0) (params n 1)) else
    if opcode == 0x54 then Some (Exactly 6, λ n. Materialx (word n 0) (word n 1) (params n 2)) else None

abbrev pub lighting_spelling : Rec → Option Command
lighting_spelling (Fogx parameter values) =
    Some (record { opcode = 0x50; words = parameter ∷ bits values.0 ∷ bits values.1 ∷ bits values.2 ∷ bits values.3 ∷ []; piece = [] })
lighting_spelling (Lightx light parameter values) =
    Some (record { opcode = 0x52; words = light ∷ parameter ∷ bits values.0 ∷ bits values.1 ∷ bits values.2 ∷ bits values.3 ∷ []; piece = [] })
lighting_spelling (LightModelx parameter values) =
    Some (record { opcode = 0x53; words = parameter ∷ bits values.0 ∷ bits values.1 ∷ bits values.2 ∷ bits values.3 ∷ []; piece = [] })
lighting_spelling (Materialx face parameter values) =
    Some (record { opcode = 0x54; words = face ∷ parameter ∷ bits values.0 ∷ bits values.1 ∷ bits values.2 ∷ bits values.3 ∷ []; piece = [] })
lighting_spelling _ = None
