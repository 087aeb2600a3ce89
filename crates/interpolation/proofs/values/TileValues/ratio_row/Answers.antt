use Rattle.std.proofs.Common.{rules, ◌≡◌, ◌∙◌, ◌≤◌, ℕ, ap, arith, FitsSigned, w32}
use Rattle.std.specs.Prelude.{ℤ, unsigned_abs}
use Rattle.std.proofs.lemmas.Int.{to_z-of_z}
use Rattle.fx_arith.specs.Number.{component, floor_div, nearest_fixed}
use Rattle.interpolation.specs.Factors.{scaled_total}
use Rattle.interpolation.specs.Frames.{IsSumPlane}
use Rattle.interpolation.specs.Rows.{AreDivisors}
use Rattle.interpolation.specs.TileValues.{IsSameOf, x_of, y_of}
use Rattle.interpolation.proofs.Scaled.{value-same}
use Rattle.interpolation.proofs.values.TileValues.ratio_row.Goals as goal

pub returns-in-Flat : goal.returns-in-Flat
returns-in-Flat c value is holds i begun less =
    let on = c.args.self.now in
    let n = c.in-Flat.value in
    let n_fits : FitsSigned w32 n = search rules in
    let column : i ≤ 16 = omega (arith, less, c.requires.to) in
    let same : IsSameOf on.prim value n = rw c.in-Flat.is at is in
    let found : component c.flat_row.new.values i ≡ nearest_fixed n = simp to_z-of_z at (c.flat_row.ensures i begun less) in
    found ∙ ap nearest_fixed (value-same on.prim value n (x_of on i) (y_of on c.args.row) same (c.requires.positive i column))

pub returns-in-Divided : goal.returns-in-Divided
returns-in-Divided c value is holds i begun less =
    let on = c.args.self.now in
    let row = c.args.row in
    let divisor : ℕ → ℤ = λ j. scaled_total on.prim (x_of on j) (y_of on row) in
    let column : i ≤ 16 = omega (arith, less, c.requires.to) in
    let sum : IsSumPlane on.prim on.rect value c.in-Divided.plane = rw c.in-Divided.is at is in
    let are : AreDivisors divisor c.args.from c.args.to c.args.spots.now = λ j from to.
    let at = c.requires.spots j from to in
    rw (at.in_column, at.in_row) at at.spot_is.by in
    c.divided_row.ensures divisor are holds i begun less
    ∙ ap (λ (z : ℤ). nearest_fixed (floor_div z (unsigned_abs (divisor i)))) (sum i row column c.requires.row)
