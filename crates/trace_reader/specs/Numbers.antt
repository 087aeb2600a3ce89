-- Numbers in bytes, the lowest byte first.
use Rattle.std.specs.Prelude.{ℕ, ◌*◌, List, map, drop}
use Rattle.std.specs.List.{range_with_len}
use Rattle.byteorder.specs.Endian.{little_from, little_number}

-- the number of n bytes at place k
abbrev pub number_at : ℕ → ℕ → List ℕ → ℕ
number_at n k bytes = little_from k n bytes

-- the first sixteen words of 32 bits of these bytes; a byte past their end is 0
abbrev pub words : List ℕ → List ℕ
words bytes = map (λ k. little_number 4 (drop (4 * k) bytes)) (range_with_len 0 16)
