-- What a covered pixel says of a line.
use Rattle.std.proofs.Common.{◌≡◌, ℕ, suc, ◌<◌, ◌⊎◌, inl, inr, refl, arith}
use Rattle.std.specs.Prelude.{ℤ, pos, negsuc, ◌+ℤ◌, ◌-ℤ◌, ◌*ℤ◌, ◌≤ℤ◌, ◌<ℤ◌, Bool, true, false, ◌&&◌, IsTrue, int_le, int_lt, if◌then◌else◌}
use Rattle.std.specs.Int.{int_max, int_min}
use Rattle.std.proofs.lemmas.Int.{ints, clamps}
use Rattle.fx_arith.specs.Number.{floor_div, floor_quotient}
use Rattle.fx_arith.proofs.Floors.{floor_div-<, ≤-floor_div}
use Rattle.fx_arith.proofs.Products.{*ℤ-nonnegative, -ℤ-*ℤ, *ℤ-opposite, *ℤ-≤, +ℤ-*ℤ}
use Rattle.gl_records.specs.LineCoverage.{is_passed, minor_place}

-- the place lies from start, included, to end, excluded
abbrev pub Passed : ℤ → ℤ → ℤ → Type 0
Passed start end at = ((start <ℤ end) × (start ≤ℤ at) × (at <ℤ end)) ⊎ ((end <ℤ start) × (at ≤ℤ start) × (end <ℤ at))

two : (a b : Bool) → IsTrue (a && b) → IsTrue a × IsTrue b
two true true h = (refl, refl)
two true false h = cc
two false b h = cc

passed_cases : (start end at : ℤ) (up : Bool) → int_lt start end ≡ up
    → IsTrue (if up then int_le start at && int_lt at end else int_le at start && int_lt end at) → Passed start end at
passed_cases start end at true p h =
    let both = two (int_le start at) (int_lt at end) h in
    inl (omega (arith, ints, p), omega (arith, ints, both.0), omega (arith, ints, both.1))
passed_cases start end at false p h =
    let both = two (int_le at start) (int_lt end at) h in
    inr (omega (arith, ints, both.0, both.1), omega (arith, ints, both.0), omega (arith, ints, both.1))

pub Passed-from : (start end at : ℤ) → IsTrue (is_passed start end at) → Passed start end at
Passed-from start end at h = passed_cases start end at (int_lt start end) refl h

-- a part of a run, rounded down, lies between nothing and the whole run
share_between : (run part : ℤ) (d : ℕ) → 0 < d → pos 0 ≤ℤ part → part ≤ℤ pos d
    → (int_min (pos 0) run ≤ℤ floor_div (run *ℤ part) d) × (floor_div (run *ℤ part) d ≤ℤ int_max (pos 0) run)
share_between (pos n) part d some from to =
    let least : pos 0 ≤ℤ floor_div (pos n *ℤ part) d =
    ≤-floor_div (pos 0) (pos n *ℤ part) d some (omega (arith, ints, *ℤ-nonnegative (pos n) part (omega (arith, ints)) from)) in
    let most : floor_div (pos n *ℤ part) d <ℤ (pos n +ℤ pos 1) =
    floor_div-< (pos n *ℤ part) (pos n +ℤ pos 1) d some
    (omega (arith, ints, *ℤ-≤ (pos n) part (pos d) (omega (arith, ints)) to, +ℤ-*ℤ (pos n) (pos 1) (pos d))) in
    (omega (arith, ints, clamps, least), omega (arith, ints, clamps, most))
share_between (negsuc n) part d some from to =
    let back = pos 0 -ℤ negsuc n in
    let least : negsuc n ≤ℤ floor_div (negsuc n *ℤ part) d =
    ≤-floor_div (negsuc n) (negsuc n *ℤ part) d some
    (omega (arith, ints, *ℤ-≤ back part (pos d) (omega (arith, ints)) to, -ℤ-*ℤ (pos 0) (negsuc n) part, -ℤ-*ℤ (pos 0) (negsuc n) (pos d))) in
    let most : floor_div (negsuc n *ℤ part) d <ℤ pos 1 =
    floor_div-< (negsuc n *ℤ part) (pos 1) d some
    (omega (arith, ints, *ℤ-nonnegative back part (omega (arith, ints)) from, -ℤ-*ℤ (pos 0) (negsuc n) part)) in
    (omega (arith, ints, clamps, least), omega (arith, ints, clamps, most))

-- a part of the whole on either side of 0
abbrev IsPart : ℤ → ℤ → Type 0
IsPart part whole = ((pos 0 <ℤ whole) × (pos 0 ≤ℤ part) × (part ≤ℤ whole)) ⊎ ((whole <ℤ pos 0) × (part ≤ℤ pos 0) × (whole ≤ℤ part))

quotient_between : (run part whole : ℤ) → IsPart part whole
    → (int_min (pos 0) run ≤ℤ floor_quotient (run *ℤ part) whole) × (floor_quotient (run *ℤ part) whole ≤ℤ int_max (pos 0) run)
quotient_between run part (pos d) (inl h) = share_between run part d (omega (arith, ints, h.0)) h.1 h.2
quotient_between run part (pos d) (inr h) = absurd (omega (arith, ints, h.0))
quotient_between run part (negsuc d) (inl h) = absurd (omega (arith, ints, h.0))
quotient_between run part (negsuc d) (inr h) =
    rw (← *ℤ-opposite run part) (share_between run (pos 0 -ℤ part) (suc d) (omega arith) (omega (arith, ints, h.1)) (omega (arith, ints, h.2)))

passed_part : (start end at : ℤ) → Passed start end at → IsPart (at -ℤ start) (end -ℤ start)
passed_part start end at (inl h) = inl (omega (arith, ints, h.0), omega (arith, ints, h.1), omega (arith, ints, h.2))
passed_part start end at (inr h) = inr (omega (arith, ints, h.0), omega (arith, ints, h.1), omega (arith, ints, h.2))

-- on the minor axis the line stays between its ends
pub minor_place-between : (start minor_start end minor_end at : ℤ) → Passed start end at
    → (int_min minor_start minor_end ≤ℤ minor_place start minor_start end minor_end at)
    × (minor_place start minor_start end minor_end at ≤ℤ int_max minor_start minor_end)
unfolding minor_place
minor_place-between start minor_start end minor_end at h =
    let q = quotient_between (minor_end -ℤ minor_start) (at -ℤ start) (end -ℤ start) (passed_part start end at h) in
    (omega (arith, ints, clamps, q.0), omega (arith, ints, clamps, q.1))
