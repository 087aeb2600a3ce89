-- What lies between: the formula of a crossing never leaves the range of its two ends.
use Rattle.std.proofs.Common.{◌≡◌, ℕ, ◌<◌, ap, sym, ◌∙◌, arith}
use Rattle.std.specs.Prelude.{ℤ, pos, negsuc, ◌≤ℤ◌, ◌<ℤ◌, ◌+ℤ◌, ◌-ℤ◌, ◌*ℤ◌}
use Rattle.std.specs.Int.RustNames.{FitsSigned}
use Rattle.std.proofs.lemmas.Int.{ints, by_lt_z}
use Rattle.std.proofs.Math.IntN.{*ℤ_comm}
use mir.Syntax.{w32, w64}
use mir.Val.{to_z, of_z}
use Rattle.fx_arith.specs.Number.{floor_div, floor_quotient}
use Rattle.fx_arith.proofs.Products.{*ℤ-≤, *ℤ-opposite}
use Rattle.fx_arith.proofs.Floors.{floor_div-≤, floor_div-multiple}
use Rattle.clipper.specs.Crossing.{between}

-- bounds of a quotient by multiples of its divisor
quotient-low : (q z : ℤ) (d : ℕ) → 0 < d → (q *ℤ pos d) ≤ℤ z → q ≤ℤ floor_div z d
quotient-low q z d some h = omega (arith, ints, floor_div-≤ (q *ℤ pos d) z d some h, floor_div-multiple q d some)

quotient-high : (q z : ℤ) (d : ℕ) → 0 < d → z ≤ℤ (q *ℤ pos d) → floor_div z d ≤ℤ q
quotient-high q z d some h = omega (arith, ints, floor_div-≤ z (q *ℤ pos d) d some h, floor_div-multiple q d some)

-- how far it is from a, in a difference c of the ends, as whole numbers: none or all of c, or in between
steps_up : (c f : ℤ) (d : ℕ) → 0 < d → pos 0 ≤ℤ f → f ≤ℤ pos d → pos 0 ≤ℤ c → (pos 0 ≤ℤ floor_div (c *ℤ f) d) × (floor_div (c *ℤ f) d ≤ℤ c)
steps_up c f d some from to up = (
  quotient-low (pos 0) (c *ℤ f) d some (omega (arith, ints, *ℤ-≤ c (pos 0) f up from)),
  quotient-high c (c *ℤ f) d some (*ℤ-≤ c f (pos d) up to),
)

steps_down : (c f : ℤ) (d : ℕ) → 0 < d → pos 0 ≤ℤ f → f ≤ℤ pos d → c ≤ℤ pos 0 → (c ≤ℤ floor_div (c *ℤ f) d) × (floor_div (c *ℤ f) d ≤ℤ pos 0)
steps_down c f d some from to down =
    let back : pos 0 ≤ℤ (pos 0 -ℤ c) = omega (arith, ints) in
    let turn : (e : ℤ) → (pos 0 -ℤ c) *ℤ e ≡ pos 0 -ℤ c *ℤ e = λ e. *ℤ_comm (pos 0 -ℤ c) e ∙ *ℤ-opposite e c ∙ ap (λ p. pos 0 -ℤ p) (*ℤ_comm e c) in (
      quotient-low c (c *ℤ f) d some (omega (arith, ints, *ℤ-≤ (pos 0 -ℤ c) f (pos d) back to, turn f, turn (pos d))),
      quotient-high (pos 0) (c *ℤ f) d some (omega (arith, ints, *ℤ-≤ (pos 0 -ℤ c) (pos 0) f back from, turn f, turn (pos 0))),
    )

-- the same at a divisor that is a whole number
up : (c f d : ℤ) → pos 0 ≤ℤ f → f ≤ℤ d → pos 0 <ℤ d → pos 0 ≤ℤ c → (pos 0 ≤ℤ floor_quotient (c *ℤ f) d) × (floor_quotient (c *ℤ f) d ≤ℤ c)
up c f (pos d) from to some h = steps_up c f d (omega (arith, ints, some)) from to h
up c f (negsuc d) from to some h = absurd (omega (arith, ints, some))

down : (c f d : ℤ) → pos 0 ≤ℤ f → f ≤ℤ d → pos 0 <ℤ d → c ≤ℤ pos 0 → (c ≤ℤ floor_quotient (c *ℤ f) d) × (floor_quotient (c *ℤ f) d ≤ℤ pos 0)
down c f (pos d) from to some h = steps_down c f d (omega (arith, ints, some)) from to h
down c f (negsuc d) from to some h = absurd (omega (arith, ints, some))

-- a number that is at most both ends is at most what lies between
pub ≤-between : (m from_a from_b a b : ℤ) → pos 0 ≤ℤ from_a → from_b <ℤ pos 0 → m ≤ℤ a → m ≤ℤ b → m ≤ℤ between from_a from_b a b
unfolding between
≤-between m from_a from_b a b inside outside p q =
    let whole : from_a ≤ℤ (from_a -ℤ from_b) = omega (arith, ints) in
    let some : pos 0 <ℤ (from_a -ℤ from_b) = omega (arith, ints) in
    by_lt_z b a
    (λ under. omega (arith, ints, down (b -ℤ a) from_a (from_a -ℤ from_b) inside whole some (omega (arith, ints, under))))
    (λ over. omega (arith, ints, up (b -ℤ a) from_a (from_a -ℤ from_b) inside whole some (omega (arith, ints, over))))

-- and a number that is at least both ends is at least what lies between
pub between-≤ : (m from_a from_b a b : ℤ) → pos 0 ≤ℤ from_a → from_b <ℤ pos 0 → a ≤ℤ m → b ≤ℤ m → between from_a from_b a b ≤ℤ m
unfolding between
between-≤ m from_a from_b a b inside outside p q =
    let whole : from_a ≤ℤ (from_a -ℤ from_b) = omega (arith, ints) in
    let some : pos 0 <ℤ (from_a -ℤ from_b) = omega (arith, ints) in
    by_lt_z b a
    (λ under. omega (arith, ints, down (b -ℤ a) from_a (from_a -ℤ from_b) inside whole some (omega (arith, ints, under))))
    (λ over. omega (arith, ints, up (b -ℤ a) from_a (from_a -ℤ from_b) inside whole some (omega (arith, ints, over))))

-- a multiple is divided exactly
exact : (q z d : ℤ) → pos 0 <ℤ d → z ≡ q *ℤ d → floor_quotient z d ≡ q
exact q z (pos d) some same = ap (λ n. floor_div n d) same ∙ floor_div-multiple q d (omega (arith, ints, some))
exact q z (negsuc d) some same = absurd (omega (arith, ints, some))

-- the plane at which a number is 1 is crossed where it is 1
pub between-one : (a b : ℤ) → pos 1 ≤ℤ a → b <ℤ pos 1 → between (a -ℤ pos 1) (b -ℤ pos 1) a b ≡ pos 1
unfolding between
between-one a b inside outside =
    let whole : a -ℤ pos 1 -ℤ (b -ℤ pos 1) ≡ a -ℤ b = omega (arith, ints) in
    let back : b -ℤ a ≡ pos 0 -ℤ (a -ℤ b) = omega (arith, ints) in
    let turned : (b -ℤ a) *ℤ (a -ℤ pos 1) ≡ (pos 0 -ℤ (a -ℤ pos 1)) *ℤ (a -ℤ b) =
    *ℤ_comm (b -ℤ a) (a -ℤ pos 1) ∙ ap (λ n. (a -ℤ pos 1) *ℤ n) back ∙ *ℤ-opposite (a -ℤ pos 1) (a -ℤ b)
    ∙ ap (λ n. pos 0 -ℤ n) (*ℤ_comm (a -ℤ pos 1) (a -ℤ b)) ∙ sym (*ℤ-opposite (a -ℤ b) (a -ℤ pos 1)) ∙ *ℤ_comm (a -ℤ b) (pos 0 -ℤ (a -ℤ pos 1)) in
    let step : floor_quotient ((b -ℤ a) *ℤ (a -ℤ pos 1)) (a -ℤ b) ≡ pos 0 -ℤ (a -ℤ pos 1) =
    exact (pos 0 -ℤ (a -ℤ pos 1)) _ (a -ℤ b) (omega (arith, ints)) turned in
    rw whole (omega (arith, ints, step))

-- a and the step from it, as words hold them: what lies between, which fits
pub sum_between : (from_a from_b a b length step : ℤ) → pos 0 ≤ℤ from_a → from_b <ℤ pos 0 → FitsSigned w32 a → FitsSigned w32 b
    → length ≡ to_z w32 (of_z w32 b) -ℤ to_z w32 (of_z w32 a)
    → step ≡ floor_quotient (to_z w64 (of_z w64 length) *ℤ from_a) (from_a -ℤ from_b)
    → (a +ℤ step ≡ between from_a from_b a b) × FitsSigned w32 (a +ℤ step)
unfolding between
sum_between from_a from_b a b length step inside outside a_fits b_fits e f =
    let whole : to_z w64 (of_z w64 length) ≡ b -ℤ a = omega (arith, ints) in
    let same : a +ℤ step ≡ between from_a from_b a b =
    ap (λ n. a +ℤ n) (f ∙ ap (λ n. floor_quotient (n *ℤ from_a) (from_a -ℤ from_b)) whole) in
    let low = ≤-between (negsuc 2147483647) from_a from_b a b inside outside (omega (arith, ints)) (omega (arith, ints)) in
    let high = between-≤ (pos 2147483647) from_a from_b a b inside outside (omega (arith, ints)) (omega (arith, ints)) in
    (same, omega (arith, ints, same, low, high))
