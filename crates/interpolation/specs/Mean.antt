-- Means of three numbers.
use Rattle.std.specs.Prelude.{ℕ, ◌+◌, ◌*◌, ◌/◌}

-- the mean of i, j and k, which count by m, n and o, rounded down
abbrev pub weighted_mean : ℕ → ℕ → ℕ → ℕ → ℕ → ℕ → ℕ
weighted_mean m n o i j k = (m * i + n * j + o * k) / (m + n + o)
