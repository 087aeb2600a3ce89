-- The whole part of a logarithm of base 2.
use Rattle.std.specs.Prelude.{ℕ, ◌-◌}
use Rattle.std.specs.Int.{w64, leading_zeros}

-- the place of a number's highest bit, counted from 0, for a number of 64 bits; 0 for the number 0
unfoldable pub top_bit : ℕ → ℕ
top_bit n = 63 - leading_zeros w64 n
