-- Counts of faults: the one cause of an answer that hands a fault on.
use Rattle.std.specs.Prelude.{ℕ, ◌+◌, ◌-◌, ◌^◌, ◌≤◌, min}

-- where a count of faults stands still
abbrev pub greatest_count : ℕ
greatest_count = 2 ^ 64 - 1

-- the count rose by one at least, or stands at the greatest count, from where it can't rise
abbrev pub Rose : ℕ → ℕ → Type 0
Rose old new = min (old + 1) greatest_count ≤ new
