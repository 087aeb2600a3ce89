-- Commands of arrays: client regions, the arrays that lie in them, and draws. Opcodes 0x10 to 0x17, 0x1D and 0x1E.
use Rattle.std.specs.Prelude.{ℕ, ◌==◌, [], ◌∷◌, Option, Some, None, if◌then◌else◌}
use Rattle.gl_records.specs.declared.rec.Rec.{Rec}
use Rattle.gl_records.specs.declared.rec.Rec.TheVariants.{ClientBytes, VertexPointer, NormalPointer, ColorPointer, TexCoordPointer, EnableClientState, DisableClientState, ClientActiveTexture, DrawArrays, DrawElements}
use Rattle.trace_reader.specs.declared.shape.Shape.TheVariants.{Exactly, AtLeast}
use Rattle.trace_reader.specs.Command.{Layout, word, signed, Command, signed_bits}

abbrev pub arrays_row : ℕ → Option Layout
arrays_row opcode =
    if opcode == 0x10 then Some (AtLeast 1, λ n. ClientBytes (word n 0) []) else
    if opcode == 0x11 then Some (Exactly 5, λ n. VertexPointer (signed n 0) (word n 1) (signed n 2) (word n 3) (word n 4)) else
    if opcode == 0x12 then Some (Exactly 4, λ n. NormalPointer (word n 0) (signed n 1) (word n 2) (word n 3)) else
    if opcode == 0x13 then Some (Exactly 5, λ n. ColorPointer (signed n 0) (word n 1) (signed n 2) (word n 3) (word n 4)) else
    if opcode == 0x14 then Some (Exactly 5, λ n. TexCoordPointer (signed n 0) (word n 1) (signed n 2) (word n 3) (word n 4)) else
    if opcode == 0x15 then Some (Exactly 1, λ n. EnableClientState (word n 0)) else
    if opcode == 0x16 then Some (Exactly 1, λ n. DisableClientState (word n 0)) else
    if opcode == 0x17 then Some (Exactly 1, λ n. ClientActiveTexture (word n 0)) else
    if opcode == 0x1D then Some (Exactly 3, λ n. DrawArrays (word n 0) (signed n 1) (signed n 2)) else
    if opcode == 0x1E then Some (Exactly 5, λ n. DrawElements (word n 0) (signed n 1) (word n 2) (word n 3) (word n 4)) else None

abbrev pub arrays_spelling : Rec → Option Command
arrays_spelling (ClientBytes region piece) = Some (record { opcode = 0x10; words = region ∷ []; piece = piece })
arrays_spelling (VertexPointer size kind stride region offset) =
    Some (record { opcode = 0x11; words = signed_bits size ∷ kind ∷ signed_bits stride ∷ region ∷ offset ∷ []; piece = [] })
arrays_spelling (NormalPointer kind stride region offset) =
    Some (record { opcode = 0x12; words = kind ∷ signed_bits stride ∷ region ∷ offset ∷ []; piece = [] })
arrays_spelling (ColorPointer size kind stride region offset) =
    Some (record { opcode = 0x13; words = signed_bits size ∷ kind ∷ signed_bits stride ∷ region ∷ offset ∷ []; piece = [] })
arrays_spelling (TexCoordPointer size kind stride region offset) =
    Some (record { opcode = 0x14; words = signed_bits size ∷ kind ∷ signed_bits stride ∷ region ∷ offset ∷ []; piece = [] })
arrays_spelling (EnableClientState array) = Some (record { opcode = 0x15; words = array ∷ []; piece = [] })
arrays_spelling (DisableClientState array) = Some (record { opcode = 0x16; words = array ∷ []; piece = [] })
arrays_spelling (ClientActiveTexture texture) = Some (record { opcode = 0x17; words = texture ∷ []; piece = [] })
arrays_spelling (DrawArrays mode first count) =
    Some (record { opcode = 0x1D; words = mode ∷ signed_bits first ∷ signed_bits count ∷ []; piece = [] })
arrays_spelling (DrawElements mode count kind region offset) =
    Some (record { opcode = 0x1E; words = mode ∷ signed_bits count ∷ kind ∷ region ∷ offset ∷ []; piece = [] })
arrays_spelling _ = None
