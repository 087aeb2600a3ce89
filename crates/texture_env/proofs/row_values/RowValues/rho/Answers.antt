use Rattle.std.proofs.Common.{◌≡◌, ◌∙◌}
use Rattle.gl_records.specs.declared.prim.PrimKind.TheVariants.{Point}
use Rattle.interpolation.specs.TileValues.{x_of, y_of}
use Rattle.texture_env.proofs.Rhos.{rho-known, rho-point}
use Rattle.texture_env.proofs.row_values.RowValues.rho.Goals as goal

pub returns-in-Point : goal.returns-in-Point
returns-in-Point c =
    let values = c.self.inside.values.now in
    rw (← c.self.view_is)
    (rho-point values.prim c.args.k c.args.w c.args.h (x_of values c.args.column) (y_of values c.self.inside.row)
    (rw c.prim-prim.ensures at c.in-Point.is))

pub returns : goal.returns
returns c =
    let values = c.self.inside.values.now in
    let other : values.prim.kind ≡ Point → ⊥ = λ e. c.in_default.not-Point (rw c.prim-prim.ensures e) in
    rw (← c.self.view_is)
    (c.greatest_move.ensures
    ∙ rho-known values c.args.k c.args.w c.args.h c.args.column c.self.inside.row
    c.coordinates.result c.coordinates-2.result c.coordinates-3.result other c.coordinates.ensures c.coordinates-2.ensures c.coordinates-3.ensures)
