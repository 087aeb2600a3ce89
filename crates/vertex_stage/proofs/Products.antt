-- Products of numbers that aren't negative.
use Rattle.std.proofs.Common.{arith}
use Rattle.std.specs.Prelude.{ℤ, pos, negsuc, ◌*ℤ◌, ◌≤ℤ◌}
use Rattle.std.proofs.lemmas.Int.{ints}
use Rattle.fx_arith.specs.Number.{clamp, floor_div, mul}
use Rattle.fx_arith.proofs.Floors.{floor_div-≤}
use Rattle.fx_arith.proofs.Products.{*ℤ-nonnegative}

clamp_nonnegative : (z : ℤ) → pos 0 ≤ℤ z → pos 0 ≤ℤ clamp (negsuc 2147483647) (pos 2147483647) z
clamp_nonnegative z p = grind (arith, ints)

pub mul_nonnegative : (a b : ℤ) → pos 0 ≤ℤ a → pos 0 ≤ℤ b → pos 0 ≤ℤ mul a b
mul_nonnegative a b p q =
    let floor : pos 0 ≤ℤ floor_div (a *ℤ b) 65536 = floor_div-≤ (pos 0) (a *ℤ b) 65536 (omega arith) (*ℤ-nonnegative a b p q) in
    clamp_nonnegative (floor_div (a *ℤ b) 65536) floor
