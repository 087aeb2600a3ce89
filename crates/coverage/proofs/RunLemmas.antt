-- Runs of pixels as bits.
use Rattle.std.specs.Prelude.{ℕ, ℤ, pos, ◌+◌, ◌-◌, ◌^◌, ◌<◌, ◌+ℤ◌, ◌-ℤ◌, ◌<ℤ◌, ◌≤ℤ◌, ◌≡◌, ◌↔◌, Bool, true, false, ◌&&◌, nat_le, nat_lt, int_le, int_lt, min, if◌then◌else◌}
use Rattle.std.specs.Int.{bit_at}
use Rattle.std.proofs.Common.{refl, sym, ◌∙◌, arith}
use Rattle.std.proofs.lemmas.Bool.{leb-true, leb-false, le-leb, lt-leb, ltb-true, ltb-false, le-ltb, lt-ltb}
use Rattle.std.proofs.lemmas.Int.{ints, by_lt_z}
use Rattle.std.proofs.lemmas.Nat.Bits.{bit_at_mask_inside, bit_at_mask_below, bit_at_mask_above, bit_at-lt}
use Rattle.gl_records.specs.Center.{center}
use Rattle.gl_records.specs.LineCoverage.{covers_run, first_of_run, is_passed, is_x_major, line_covers}
use Rattle.gl_records.specs.PointCoverage.{is_among, first_about, point_covers}
use Rattle.gl_records.specs.declared.prim.VertexOut.{VertexOut}
use Rattle.coverage.specs.declared.line.Along.{Along}
use Rattle.coverage.specs.Runs.{covers_of, place_of}

-- ---- masks
mask_cases : (low high k : ℕ) (from below : Bool) → nat_le low k ≡ from → nat_lt k high ≡ below
    → bit_at (2 ^ high - 2 ^ low) k ≡ (if from && below then 1 else 0)
mask_cases low high k true true p q = bit_at_mask_inside low high k (leb-true low k p) (ltb-true k high q)
mask_cases low high k true false p q = bit_at_mask_above low high k (ltb-false k high q)
mask_cases low high k false below p q = bit_at_mask_below low high k (leb-false low k p)

pub mask_bit : (low high k : ℕ) → bit_at (2 ^ high - 2 ^ low) k ≡ (if nat_le low k && nat_lt k high then 1 else 0)
mask_bit low high k = mask_cases low high k (nat_le low k) (nat_lt k high) refl refl

-- how many of the places lie below one, as a test of each
pub same_from : (place : ℤ) (count k : ℕ) (at : ℤ) → (k < count) ↔ (at <ℤ place) → nat_le count k ≡ int_le place at
same_from place count k at below =
    by_lt_z at place
    (λ less. let e : false ≡ int_le place at = omega (arith, ints, less) in lt-leb count k (below.1 less) ∙ e)
    (λ more.
    let apart : ¬ (k < count) = λ h. absurd (omega (arith, ints, more, below.0 h)) in
    let e : true ≡ int_le place at = omega (arith, ints, more) in
    le-leb count k (omega (arith, apart)) ∙ e)

pub same_below : (place : ℤ) (count k : ℕ) (at : ℤ) → (k < count) ↔ (at <ℤ place) → nat_lt k count ≡ int_lt at place
same_below place count k at below =
    by_lt_z at place
    (λ less. let e : true ≡ int_lt at place = omega (arith, ints, less) in lt-ltb k count (below.1 less) ∙ e)
    (λ more.
    let apart : ¬ (k < count) = λ h. absurd (omega (arith, ints, more, below.0 h)) in
    let e : false ≡ int_lt at place = omega (arith, ints, more) in
    le-ltb k count (omega (arith, apart)) ∙ e)

-- the bits between those below the run's start and those below its end are the run's
pub run_bit : (first : ℤ) (count base k low high bit : ℕ)
    → (k < low) ↔ (pos (base + k) <ℤ first) → (k < high) ↔ (pos (base + k) <ℤ (first +ℤ pos count))
    → bit ≡ (if nat_le low k && nat_lt k high then 1 else 0)
    → bit ≡ (if is_among first count (pos (base + k)) then 1 else 0)
run_bit first count base k low high bit below_low below_high is =
    let from : nat_le low k ≡ int_le first (pos (base + k)) = same_from first low k (pos (base + k)) below_low in
    let below : nat_lt k high ≡ int_lt (pos (base + k)) (first +ℤ pos count) = same_below (first +ℤ pos count) high k (pos (base + k)) below_high in
    rw (← from, ← below) is

-- ---- a line's runs
same_lt : (v at end : ℤ) → v ≡ at -ℤ end → int_lt v (pos 0) ≡ int_lt at end
same_lt v at end h = grind (arith, ints)

same_gt : (v at end : ℤ) → v ≡ at -ℤ end → int_lt (pos 0) v ≡ int_lt end at
same_gt v at end h = grind (arith, ints)

pub passed-up : (start end at u v : ℤ) → start <ℤ end → u ≡ at -ℤ start → v ≡ at -ℤ end → pos 0 ≤ℤ u
    → int_lt v (pos 0) ≡ is_passed start end at
passed-up start end at u v up is_u is_v from =
    let rises : int_lt start end ≡ true = let e : true ≡ int_lt start end = omega (arith, ints) in sym e in
    let starts : int_le start at ≡ true = let e : true ≡ int_le start at = omega (arith, ints) in sym e in
    rw (rises, starts) (same_lt v at end is_v)

pub passed-down : (start end at u v : ℤ) → end ≤ℤ start → u ≡ at -ℤ start → v ≡ at -ℤ end → u ≤ℤ pos 0
    → int_lt (pos 0) v ≡ is_passed start end at
passed-down start end at u v down is_u is_v from =
    let falls : int_lt start end ≡ false = let e : false ≡ int_lt start end = omega (arith, ints) in sym e in
    let starts : int_le at start ≡ true = let e : true ≡ int_le at start = omega (arith, ints) in sym e in
    rw (falls, starts) (same_gt v at end is_v)

pub passed_bit : (line : Along) (along across first : ℤ) (bit : ℕ) → is_passed line.start line.end (center along) ≡ true
    → first ≡ first_of_run (place_of line (center along)) line.width
    → bit ≡ (if is_among first line.width across then 1 else 0) → bit ≡ (if covers_of line along across then 1 else 0)
unfolding covers_run
passed_bit line along across first bit passed is_first is = rw passed (rw is_first at is)

pub no_bit : (line : Along) (along across : ℤ) → is_passed line.start line.end (center along) ≡ false
    → ◌≡◌ {A = ℕ} 0 (if covers_of line along across then 1 else 0)
unfolding covers_run
no_bit line along across passed = rw passed

pub x_major_bit : (a b : VertexOut) (width : ℕ) (x y : ℤ) (bit : ℕ) → is_x_major a b ≡ true
    → bit ≡ (if covers_run width a.x a.y b.x b.y x y then 1 else 0) → bit ≡ (if line_covers a b width x y then 1 else 0)
unfolding line_covers
x_major_bit a b width x y bit major is = rw major is

pub y_major_bit : (a b : VertexOut) (width : ℕ) (x y : ℤ) (bit : ℕ) → is_x_major a b ≡ false
    → bit ≡ (if covers_run width a.y a.x b.y b.x y x then 1 else 0) → bit ≡ (if line_covers a b width x y then 1 else 0)
unfolding line_covers
y_major_bit a b width x y bit major is = rw major is

-- ---- a point's square
both_bits : (a b : Bool) → min (if a then 1 else 0) (if b then 1 else 0) ≡ (if a && b then 1 else 0)
both_bits true true = refl
both_bits true false = refl
both_bits false true = refl
both_bits false false = refl

pub square_bit : (v : VertexOut) (size : ℕ) (x y : ℤ) (bit column row : ℕ) → bit ≡ min column row
    → column ≡ (if is_among (first_about v.x size) size x then 1 else 0) → row ≡ (if is_among (first_about v.y size) size y then 1 else 0)
    → bit ≡ (if point_covers v size x y then 1 else 0)
unfolding point_covers
square_bit v size x y bit column row is is_column is_row =
    rw (is, is_column, is_row) (both_bits (is_among (first_about v.x size) size x) (is_among (first_about v.y size) size y))

-- a bit and a bit that is set, or isn't
pub min_set : (n i bit : ℕ) → bit ≡ 1 → bit_at n i ≡ min (bit_at n i) bit
min_set n i bit set = let small = bit_at-lt n i in omega (arith, small, set)
