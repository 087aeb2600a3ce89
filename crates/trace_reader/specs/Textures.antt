-- Commands of texture objects and of their images. Opcodes 0x09 and 0x70 to 0x76.
use Rattle.std.specs.Prelude.{ℕ, ◌==◌, Bool, true, false, [], ◌∷◌, Option, Some, None, if◌then◌else◌}
use Rattle.gl_records.specs.declared.rec.Rec.{Rec}
use Rattle.gl_records.specs.declared.rec.Rec.TheVariants.{IsTexture, GenTextures, DeleteTextures, BindTexture, TexParameterx, TexImage2D, TexSubImage2D, CompressedTexImage2D}
use Rattle.trace_reader.specs.declared.shape.Shape.TheVariants.{Exactly, AtLeast, Words}
use Rattle.trace_reader.specs.Command.{Layout, word, signed, Command, signed_bits}
use Rattle.trace_reader.specs.Lists.{words_bytes}

abbrev pub textures_row : ℕ → Option Layout
textures_row opcode =
    if opcode == 0x09 then Some (Exactly 1, λ n. IsTexture (word n 0)) else
    if opcode == 0x70 then Some (Exactly 1, λ n. GenTextures (signed n 0)) else
    if opcode == 0x71 then Some (Words, λ n. DeleteTextures []) else
    if opcode == 0x72 then Some (Exactly 2, λ n. BindTexture (word n 0) (word n 1)) else
    if opcode == 0x73 then Some (Exactly 3, λ n. TexParameterx (word n 0) (word n 1) (word n 2)) else
    if opcode == 0x74 then Some (
      AtLeast 8,
      λ n.
          TexImage2D (word n 0) (signed n 1) (word n 2) (signed n 3) (signed n 4) (signed n 5) (word n 6) (word n 7) [],
    ) else
    if opcode == 0x75 then Some (
      AtLeast 8,
      λ n.
          TexSubImage2D (word n 0) (signed n 1) (signed n 2) (signed n 3) (signed n 4) (signed n 5) (word n 6) (word n 7) [],
    ) else
    if opcode == 0x76 then Some (
      AtLeast 7,
      λ n.
          CompressedTexImage2D (word n 0) (signed n 1) (word n 2) (signed n 3) (signed n 4) (signed n 5) (signed n 6) [],
    ) else None

abbrev pub textures_spelling : Rec → Option Command
textures_spelling (IsTexture name) = Some (record { opcode = 0x09; words = name ∷ []; piece = [] })
textures_spelling (GenTextures count) = Some (record { opcode = 0x70; words = signed_bits count ∷ []; piece = [] })
textures_spelling (DeleteTextures names) = Some (record { opcode = 0x71; words = []; piece = words_bytes names })
textures_spelling (BindTexture target name) = Some (record { opcode = 0x72; words = target ∷ name ∷ []; piece = [] })
textures_spelling (TexParameterx target parameter value) =
    Some (record { opcode = 0x73; words = target ∷ parameter ∷ value ∷ []; piece = [] })
textures_spelling (TexImage2D target level internal width height border format kind piece) = Some (record {
  opcode = 0x74;
  words = target ∷ signed_bits level ∷ internal ∷ signed_bits width ∷ signed_bits height ∷ signed_bits border ∷ format ∷ kind ∷ [];
  piece = piece;
})
textures_spelling (TexSubImage2D target level x y width height format kind piece) = Some (record {
  opcode = 0x75;
  words = target ∷ signed_bits level ∷ signed_bits x ∷ signed_bits y ∷ signed_bits width ∷ signed_bits height ∷ format ∷ kind ∷ [];
  piece = piece;
})
textures_spelling (CompressedTexImage2D target level internal width height border size piece) = Some (record {
  opcode = 0x76;
  words = target ∷ signed_bits level ∷ internal ∷ signed_bits width ∷ signed_bits height ∷ signed_bits border ∷ signed_bits size ∷ [];
  piece = piece;
})
textures_spelling _ = None

-- the texels of an image make up the end of the record's payload
abbrev pub brings_texels : Rec → Bool
brings_texels (TexImage2D target level internal width height border format kind piece) = true
brings_texels (TexSubImage2D target level x y width height format kind piece) = true
brings_texels (CompressedTexImage2D target level internal width height border size piece) = true
brings_texels rec = false
