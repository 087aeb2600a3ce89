-- Sines and cosines on unbounded whole numbers. The polynomial and every rounding are this project's own.
use Rattle.std.specs.Prelude.{ℕ, ℤ, pos, ◌-◌, ◌*◌, ◌/◌, ◌%◌, ◌+ℤ◌, nat_lt, neg_ℤ, unsigned_abs, if◌then◌else◌}
use Rattle.std.specs.Int.{int_rem_euclid}

-- the sine of a part of a quarter turn, the whole of which is 65536, by a polynomial of degree 5 that is
-- rounded down at each step
unfoldable pub part_sine : ℕ → ℕ
part_sine part =
    let square = part * part / 65536 in
    part * (102944 - square * (42323 - 4915 * square / 65536) / 65536) / 65536

-- a quarter of a turn: 90 degrees
abbrev pub quarter : ℕ
quarter = 90 * 65536

-- the sine of an angle from 0 up to a whole turn: it rises, falls, and goes the same way below 0
unfoldable pub turn_sine : ℕ → ℤ
turn_sine angle =
    let part = angle % quarter / 90 in
    if nat_lt angle quarter then pos (part_sine part) else
    if nat_lt angle (2 * quarter) then pos (part_sine (65536 - part)) else
    if nat_lt angle (3 * quarter) then neg_ℤ (pos (part_sine part)) else
    neg_ℤ (pos (part_sine (65536 - part)))

-- the sine of an angle in degrees; angles that are whole turns apart have one sine
abbrev pub sine : ℤ → ℤ
sine angle = turn_sine (unsigned_abs (int_rem_euclid angle (pos (4 * quarter))))

-- the cosine: the sine of 90 degrees more
abbrev pub cosine : ℤ → ℤ
cosine angle = sine (angle +ℤ pos quarter)
