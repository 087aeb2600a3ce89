-- Components of n bits as bytes (OpenGL ES 1.1.12, 3.6.2; the rounding is this project's).
use Rattle.std.specs.Prelude.{ℕ, ◌+◌, ◌-◌, ◌*◌, ◌/◌, ◌%◌, ◌^◌}

-- n bits as 8 bits: 255 v / (2^n - 1), rounded to the nearest
abbrev pub widened : ℕ → ℕ → ℕ
widened n v = (255 * v + (2 ^ n - 1) / 2) / (2 ^ n - 1)

-- the n bits of a number from bit `low` up, as 8 bits
abbrev pub component : ℕ → ℕ → ℕ → ℕ
component n low number = widened n (number / 2 ^ low % 2 ^ n)
