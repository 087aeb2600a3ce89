-- A GLfixed is the one that holds its number.
use Rattle.std.proofs.Common.{◌≡◌, ap}
use Rattle.std.specs.Prelude.{ℤ}
use Rattle.fx_arith.specs.declared.fx.Fx.{Fx}
use Rattle.fx_arith.specs.Number.{fixed}

pub fixed_is : (a : Fx) (z : ℤ) → a.0 ≡ z → a ≡ fixed z
fixed_is a z e = ap fixed e
