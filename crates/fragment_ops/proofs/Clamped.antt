-- Sums of two products as components of at most 255.
use Rattle.std.proofs.Common.{◌≡◌, ◌∙◌, ℕ, ◌<◌, ◌≤◌, ◌+◌, ◌-◌, ◌/◌, ◌%◌, ◌^◌, Bool, true, false, List, ap, arith, bit_and, bit_or, min, nat_lt, refl, slice_index}
use Rattle.std.proofs.lemmas.Bool.{ltb-false, ltb-true}
use Rattle.std.proofs.lemmas.Nat.{and_mask, and_or_apart, and_or_self}
use Rattle.gl_records.specs.Blending.{component_of_products}
use Rattle.gl_records.specs.Color.{color_of}
use Rattle.fragment_ops.specs.Quotient.{clamped_bits, quotient}

-- by the ninth bit
clamped_is : (n : ℕ) → n < 512 → clamped_bits n ≡ min n 255
clamped_is n fits = by_test (nat_lt n 256) refl
  where
    by_test : (below : Bool) → nat_lt n 256 ≡ below → clamped_bits n ≡ min n 255
    by_test true is =
        let few = ltb-true n 256 is in
        let none : 256 - n / 256 ≡ 256 = omega (arith, few) in
        let mask : bit_and n 255 ≡ n % 256 = and_mask n 8 in
        rw none (and_or_apart 255 n 256 refl ∙ mask ∙ omega (arith, few))
    by_test false is =
        let many = ltb-false n 256 is in
        let one : 256 - n / 256 ≡ 255 = omega (arith, many, fits) in
        rw one (and_or_self 255 n ∙ omega (arith, many))

component : (sum : ℕ) → sum ≤ 130050 → clamped_bits (quotient sum) ≡ min (component_of_products sum) 255
component sum fits =
    let few : quotient sum < 512 = omega arith in
    let least : min (quotient sum) 255 ≡ min (component_of_products sum) 255 = omega arith in
    clamped_is (quotient sum) few ∙ least

pub color : (sums : List ℕ) → slice_index sums 0 ≤ 130050 → slice_index sums 1 ≤ 130050 → slice_index sums 2 ≤ 130050 → slice_index sums 3 ≤ 130050
    → color_of (λ k. clamped_bits (quotient (slice_index sums k))) ≡ color_of (λ k. min (component_of_products (slice_index sums k)) 255)
color sums r g b a =
    rw (component (slice_index sums 0) r, component (slice_index sums 1) g, component (slice_index sums 2) b, component (slice_index sums 3) a) refl
