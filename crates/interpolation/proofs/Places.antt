-- A unit's coordinates by the corners' shares.
use Rattle.std.specs.Prelude.{ℕ, ℤ, pos, ◌≤ℤ◌, ◌<ℤ◌, ◌≡◌, true, false, int_lt}
use Rattle.std.proofs.Common.{arith, sym}
use Rattle.std.proofs.lemmas.Int.{ints}
use Rattle.fx_arith.specs.declared.fx.Fx.{Fx}
use Rattle.fx_arith.specs.Number.{div, fixed}
use Rattle.gl_records.specs.declared.prim.Primitive.{Primitive}
use Rattle.gl_records.specs.TextureCoordinate.{coordinate, has_coordinates}
use Rattle.interpolation.specs.declared.shares.Shares.{Shares}
use Rattle.interpolation.specs.Coordinates.{AreCoordinates}
use Rattle.interpolation.specs.Shares.{AreShares, shared_coordinate}
use Rattle.interpolation.proofs.Sums.{coordinate_sum-is}

below : (d : ℤ) → d ≤ℤ pos 0 → int_lt (pos 0) d ≡ false
below d h = let e : false ≡ int_lt (pos 0) d = omega (arith, ints) in sym e

above : (d : ℤ) → pos 0 <ℤ d → int_lt (pos 0) d ≡ true
above d h = let e : true ≡ int_lt (pos 0) d = omega (arith, ints) in sym e

-- where there is nothing to divide by
pub unknown : (shares : Shares) (p : Primitive) (unit : ℕ) (x y : ℤ) → AreShares shares p x y
    → shared_coordinate shares p unit 2 ≤ℤ pos 0
    → AreCoordinates (record { s = fixed (pos 0); t = fixed (pos 0); known = false }) p unit x y
unfolding coordinate
unknown shares p unit x y h low =
    let none : has_coordinates p unit x y ≡ false = rw (coordinate_sum-is shares p unit 2 x y h) (below (shared_coordinate shares p unit 2) low) in
    record { s = rw none; t = rw none; known = sym none }

-- where there is
pub known : (shares : Shares) (p : Primitive) (unit : ℕ) (x y : ℤ) (s t : Fx) → AreShares shares p x y
    → pos 0 <ℤ shared_coordinate shares p unit 2
    → s.0 ≡ div (shared_coordinate shares p unit 0) (shared_coordinate shares p unit 2)
    → t.0 ≡ div (shared_coordinate shares p unit 1) (shared_coordinate shares p unit 2)
    → AreCoordinates (record { s = s; t = t; known = true }) p unit x y
unfolding coordinate
known shares p unit x y s t h high s_is t_is =
    let divisor = coordinate_sum-is shares p unit 2 x y h in
    let there : has_coordinates p unit x y ≡ true = rw divisor (above (shared_coordinate shares p unit 2) high) in
    record {
      s = rw (there, coordinate_sum-is shares p unit 0 x y h, divisor) s_is;
      t = rw (there, coordinate_sum-is shares p unit 1 x y h, divisor) t_is;
      known = sym there;
    }
