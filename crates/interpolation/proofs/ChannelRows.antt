-- A component of a colour by its number in GLfixed.
use Rattle.std.specs.Prelude.{◌≡◌, ℕ, ℤ, pos, negsuc, ◌≤◌, ◌≤ℤ◌, ◌<ℤ◌, false, int_lt, IsTrue, slice_index, unsigned_abs}
use Rattle.std.proofs.Common.{ap, arith, refl, sym, ◌∙◌}
use Rattle.std.proofs.lemmas.Int.{ints}
use Rattle.fx_arith.specs.Number.{floor_div, nearest_fixed}
use Rattle.gl_records.specs.declared.prim.Primitive.{Primitive}
use Rattle.gl_records.specs.Coverage.{corner, covers}
use Rattle.gl_records.specs.Interpolation.{component}
use Rattle.gl_records.specs.Valid.{IsInRange}
use Rattle.interpolation.specs.Factors.{scaled_sum, scaled_total}
use Rattle.interpolation.proofs.Scaled.{component-scaled, interpolated-scaled}

byte-number : (q : ℤ) → pos 0 ≤ℤ q → q ≤ℤ pos 255 → (nearest_fixed q ≡ pos (unsigned_abs q)) × (unsigned_abs q ≤ 255)
byte-number (pos n) from to =
    let high : false ≡ int_lt (pos 2147483647) (pos n) = omega (arith, ints, to) in
    (rw (sym high) refl, omega (arith, ints, to))
byte-number (negsuc n) from to = absurd (omega (arith, ints, from))

pub channel-is : (p : Primitive) (k : ℕ) (x y n : ℤ) → IsInRange p → pos 0 <ℤ scaled_total p x y → IsTrue (covers p x y)
    → slice_index (corner p 0).rgba k ≤ 255 → slice_index (corner p 1).rgba k ≤ 255 → slice_index (corner p 2).rgba k ≤ 255
    → n ≡ nearest_fixed (floor_div (scaled_sum p (λ v. pos (slice_index v.rgba k)) x y) (unsigned_abs (scaled_total p x y)))
    → (n ≡ pos (component p k x y)) × (component p k x y ≤ 255)
channel-is p k x y n range positive covered first second third told =
    let q = floor_div (scaled_sum p (λ v. pos (slice_index v.rgba k)) x y) (unsigned_abs (scaled_total p x y)) in
    let between = component-scaled p k x y range positive covered first second third in
    let byte = byte-number q between.0 between.1 in
    let is : component p k x y ≡ unsigned_abs q = ap (λ (z : ℤ). unsigned_abs z) (interpolated-scaled p (λ v. pos (slice_index v.rgba k)) x y range positive) in
    (told ∙ byte.0 ∙ ap (λ (m : ℕ). pos m) (sym is), rw is byte.1)
