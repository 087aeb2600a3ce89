-- Lists of words, as names of objects, in a payload.
use Rattle.std.specs.Prelude.{ℕ, ◌*◌, ◌/◌, ◌<◌, ◌^◌, Bool, true, false, List, map, drop, length, All}
use Rattle.std.specs.List.{flat_map, range_with_len}
use Rattle.byteorder.specs.Endian.{little_bytes, little_number}
use Rattle.gl_records.specs.declared.rec.Rec.{Rec}
use Rattle.gl_records.specs.declared.rec.Rec.TheVariants.{DeleteBuffers, DeleteTextures}

-- a list of words of 32 bits
abbrev pub AreWords : List ℕ → Type 0
AreWords words = All (λ word. word < 2 ^ 32) words

-- words of 32 bits, each the lowest byte first
abbrev pub words_bytes : List ℕ → List ℕ
words_bytes words = flat_map (λ word. little_bytes 4 word) words

-- the words of 32 bits that these bytes are, each the lowest byte first
abbrev pub words_from : List ℕ → List ℕ
words_from bytes = map (λ k. little_number 4 (drop (4 * k) bytes)) (range_with_len 0 (length bytes / 4))

-- a list of words makes up the record's payload
abbrev pub brings_list : Rec → Bool
brings_list (DeleteBuffers names) = true
brings_list (DeleteTextures names) = true
brings_list rec = false
