-- A linear function over a tile lies between its values at the four corners.
use Rattle.std.proofs.Common.{◌≡◌, ℕ, ◌≤◌, ◌^◌, arith}
use Rattle.std.specs.Prelude.{IsTrue, int_lt, ◌&&◌, ℤ, pos, ◌+ℤ◌, ◌-ℤ◌, ◌*ℤ◌, ◌≤ℤ◌, ◌<ℤ◌, unsigned_abs}
use Rattle.std.proofs.lemmas.Int.{ints, by_lt_z}
use Rattle.std.proofs.lemmas.Bool.Decides.{nat_tests}
use Rattle.std.proofs.Math.IntN.{*ℤ_comm, *ℤ-zero}
use Rattle.fx_arith.proofs.Products.{*ℤ-≤, *ℤ-opposite}
use Rattle.plane_equations.specs.declared.plane.Plane.{Plane}
use Rattle.plane_equations.specs.Within.{is_narrow, is_within}
use Rattle.plane_equations.specs.Planes.{IsWithin, is_positive, plane_at}

-- i steps, as 16 steps go: no more up, and no more down
upward : (step : ℤ) (i : ℕ) → pos 0 ≤ℤ step → i ≤ 16 → (pos 0 ≤ℤ (pos i *ℤ step)) × ((pos i *ℤ step) ≤ℤ (pos 16 *ℤ step))
upward step i up fits =
    let least = *ℤ-≤ step (pos 0) (pos i) up (omega (arith, ints)) in
    let most = *ℤ-≤ step (pos i) (pos 16) up (omega (arith, ints)) in
    (omega (arith, ints, least, *ℤ_comm step (pos 0), *ℤ_comm step (pos i)), omega (arith, ints, most, *ℤ_comm step (pos i), *ℤ_comm step (pos 16)))

downward : (step : ℤ) (i : ℕ) → step <ℤ pos 0 → i ≤ 16 → ((pos i *ℤ step) ≤ℤ pos 0) × ((pos 16 *ℤ step) ≤ℤ (pos i *ℤ step))
downward step i down fits =
    let least = *ℤ-≤ (pos i) step (pos 0) (omega (arith, ints)) (omega (arith, ints)) in
    let apart = *ℤ-≤ (pos 0 -ℤ step) (pos i) (pos 16) (omega (arith, ints)) (omega (arith, ints)) in (
      omega (arith, ints, least, *ℤ_comm (pos i) (pos 0)),
      omega (arith, ints, apart, *ℤ_comm (pos 0 -ℤ step) (pos i), *ℤ_comm (pos 0 -ℤ step) (pos 16), *ℤ-opposite (pos i) step, *ℤ-opposite (pos 16) step),
    )

-- what a number is at most at both ends of a row, it is at most in between
row_above : (low start step : ℤ) (i : ℕ) → i ≤ 16 → low ≤ℤ start → low ≤ℤ (start +ℤ pos 16 *ℤ step) → low ≤ℤ (start +ℤ pos i *ℤ step)
row_above low start step i fits p q =
    by_lt_z step (pos 0)
    (λ down. omega (arith, ints, downward step i down fits))
    (λ up. omega (arith, ints, upward step i up fits))

row_below : (high start step : ℤ) (i : ℕ) → i ≤ 16 → start ≤ℤ high → (start +ℤ pos 16 *ℤ step) ≤ℤ high → (start +ℤ pos i *ℤ step) ≤ℤ high
row_below high start step i fits p q =
    by_lt_z step (pos 0)
    (λ down. omega (arith, ints, downward step i down fits))
    (λ up. omega (arith, ints, upward step i up fits))

-- the same of both ends of rows and columns
pub box_above : (low origin right up : ℤ) (i j : ℕ) → i ≤ 16 → j ≤ 16 → low ≤ℤ origin → low ≤ℤ (origin +ℤ pos 16 *ℤ right) → low ≤ℤ (origin +ℤ pos 16 *ℤ up)
    → low ≤ℤ (origin +ℤ pos 16 *ℤ right +ℤ pos 16 *ℤ up) → low ≤ℤ (origin +ℤ pos i *ℤ right +ℤ pos j *ℤ up)
box_above low origin right up i j p q first along above across =
    let bottom = row_above low origin right i p first along in
    let top = row_above low (origin +ℤ pos 16 *ℤ up) right i p above (omega (arith, ints)) in
    row_above low (origin +ℤ pos i *ℤ right) up j q bottom (omega (arith, ints, top))

pub box_below : (high origin right up : ℤ) (i j : ℕ) → i ≤ 16 → j ≤ 16 → origin ≤ℤ high → (origin +ℤ pos 16 *ℤ right) ≤ℤ high → (origin +ℤ pos 16 *ℤ up) ≤ℤ high
    → (origin +ℤ pos 16 *ℤ right +ℤ pos 16 *ℤ up) ≤ℤ high → (origin +ℤ pos i *ℤ right +ℤ pos j *ℤ up) ≤ℤ high
box_below high origin right up i j p q first along above across =
    let bottom = row_below high origin right i p first along in
    let top = row_below high (origin +ℤ pos 16 *ℤ up) right i p above (omega (arith, ints)) in
    row_below high (origin +ℤ pos i *ℤ right) up j q bottom (omega (arith, ints, top))

-- what is within a bound at the four corners is so at each place
pub within_box : (bound : ℕ) (origin right up : ℤ) (i j : ℕ) → i ≤ 16 → j ≤ 16 → IsWithin bound origin right up
    → unsigned_abs (origin +ℤ pos i *ℤ right +ℤ pos j *ℤ up) ≤ bound
within_box bound origin right up i j p q within =
    let above = box_above (pos 0 -ℤ pos bound) origin right up i j p q
    (omega (arith, ints, within.first)) (omega (arith, ints, within.along)) (omega (arith, ints, within.above)) (omega (arith, ints, within.across)) in
    let below = box_below (pos bound) origin right up i j p q
    (omega (arith, ints, within.first)) (omega (arith, ints, within.along)) (omega (arith, ints, within.above)) (omega (arith, ints, within.across)) in
    omega (arith, ints, above, below)

-- i steps along the lower row
pub within_row : (bound : ℕ) (origin right up : ℤ) (i : ℕ) → i ≤ 16 → IsWithin bound origin right up → unsigned_abs (origin +ℤ pos i *ℤ right) ≤ bound
within_row bound origin right up i p within =
    let here = within_box bound origin right up i 0 p (omega arith) within in
    omega (arith, ints, here, *ℤ_comm (pos 0) up, *ℤ-zero up)

-- the growth from a column, or a row, to the next
pub within_steps : (origin right up : ℤ) → IsWithin (2 ^ 61) origin right up → (unsigned_abs right ≤ 2 ^ 58) × (unsigned_abs up ≤ 2 ^ 58)
within_steps origin right up within = omega (arith, ints, within.first, within.along, within.above)

-- four numbers that are tested to be narrow
all_narrow : (a b c d : ℤ) → IsTrue (is_narrow a && is_narrow b && is_narrow c && is_narrow d)
    → (unsigned_abs a ≤ 2 ^ 61) × (unsigned_abs b ≤ 2 ^ 61) × (unsigned_abs c ≤ 2 ^ 61) × (unsigned_abs d ≤ 2 ^ 61)
all_narrow a b c d tests = grind (arith, nat_tests)

-- the test of the four corners
pub tested_within : (origin right up : ℤ) → IsTrue (is_within origin right up) → IsWithin (2 ^ 61) origin right up
tested_within origin right up tests =
    let all = all_narrow origin (origin +ℤ pos 16 *ℤ right) (origin +ℤ pos 16 *ℤ up) (origin +ℤ pos 16 *ℤ right +ℤ pos 16 *ℤ up) tests in
    record { first = all.0; along = all.1; above = all.2; across = all.3 }

-- four numbers that are tested to be above 0
all_above : (a b c d : ℤ) → IsTrue (int_lt (pos 0) a && int_lt (pos 0) b && int_lt (pos 0) c && int_lt (pos 0) d)
    → (pos 1 ≤ℤ a) × (pos 1 ≤ℤ b) × (pos 1 ≤ℤ c) × (pos 1 ≤ℤ d)
all_above a b c d tests = grind (arith, ints)

-- what is above 0 at the four corners is so at each place
pub positive_box : (p : Plane) (i j : ℕ) → i ≤ 16 → j ≤ 16 → IsTrue (is_positive p) → pos 0 <ℤ plane_at p i j
positive_box p i j fits_i fits_j positive =
    let corners = all_above (plane_at p 0 0) (plane_at p 16 0) (plane_at p 0 16) (plane_at p 16 16) positive in
    let across = *ℤ-zero p.right in
    let up = *ℤ-zero p.up in
    let above = box_above (pos 1) p.origin p.right p.up i j fits_i fits_j
    (omega (arith, ints, corners.0, across, up, *ℤ_comm (pos 0) p.right, *ℤ_comm (pos 0) p.up))
    (omega (arith, ints, corners.1, up, *ℤ_comm (pos 0) p.up))
    (omega (arith, ints, corners.2, across, *ℤ_comm (pos 0) p.right))
    (omega (arith, ints, corners.3)) in
    omega (arith, ints, above)

-- what doesn't grow is the same at each place
pub constant_box : (p : Plane) (i j : ℕ) → p.right ≡ pos 0 → p.up ≡ pos 0 → plane_at p i j ≡ p.origin
constant_box p i j flat level = rw (flat, level) (omega (arith, ints, *ℤ-zero (pos i), *ℤ-zero (pos j)))
