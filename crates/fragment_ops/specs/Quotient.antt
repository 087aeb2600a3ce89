-- A sum of products over 255, at most 255, without a division or a test.
use Rattle.std.specs.Prelude.{ℕ, ◌+◌, ◌-◌, ◌/◌, bit_and}
use Rattle.std.specs.Int.RustNames.{bit_or}

-- the sum and 127 over 255 where that is at most 255, and else a number above 254
abbrev pub quotient : ℕ → ℕ
quotient sum = (sum + 127 + 1 + (sum + 127) / 256) / 256

-- a number below 512, at most 255
abbrev pub clamped_bits : ℕ → ℕ
clamped_bits n = bit_and (bit_or n (256 - n / 256)) 255
