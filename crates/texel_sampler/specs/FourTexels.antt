-- Four texels, each a word with R lowest, two of a lower and two of a higher row.
use Rattle.std.specs.Prelude.{◌≡◌, ℕ, ◌+◌, ◌-◌, ◌*◌, ◌/◌, ◌≤◌, List, length, slice_index}
use Rattle.std.specs.Int.{to_le_bytes, w32}

-- byte k of a texel
abbrev pub byte_of : ℕ → ℕ → ℕ
byte_of texel k = slice_index (to_le_bytes w32 texel) k

-- byte k of two texels of a row, of which the second counts a, in 1/256
abbrev pub across : (a : ℕ) → (low high : ℕ) → ℕ → ℕ
across a low high k = (256 - a) * byte_of low k + a * byte_of high k

-- what such sums are within
pub record IsAcross (row : List ℕ) : Type 0 where
  pub len : length row ≡ 4
  pub red : slice_index row 0 ≤ 65280
  pub green : slice_index row 1 ≤ 65280
  pub blue : slice_index row 2 ≤ 65280
  pub alpha : slice_index row 3 ≤ 65280

-- lane k of two rows, of which the second counts b, in 1/256
abbrev pub sum_of_rows : (b : ℕ) → (lower upper : List ℕ) → ℕ → ℕ
sum_of_rows b lower upper k = (256 - b) * slice_index lower k + b * slice_index upper k

-- the same rounded to the nearest
abbrev pub mean_of_rows : (b : ℕ) → (lower upper : List ℕ) → ℕ → ℕ
mean_of_rows b lower upper k = (sum_of_rows b lower upper k + 32768) / 65536
