use Rattle.std.proofs.Common.{ap, rules, ◌≡◌, ◌∙◌, FitsSigned, w64}
use Rattle.std.specs.Prelude.{pos, ◌<ℤ◌, unsigned_abs}
use Rattle.std.proofs.lemmas.Int.{to_z-of_z}
use Rattle.fx_arith.specs.Number.{floor_div, nearest_fixed}
use Rattle.gl_records.specs.Valid.{IsInRange}
use Rattle.interpolation.specs.Factors.{scaled_sum, scaled_total}
use Rattle.interpolation.specs.TileValues.{OnTile, x_of, y_of}
use Rattle.interpolation.proofs.Scaled.{fog-scaled}
use Rattle.interpolation.proofs.values.TileValues.fog_byte_by.Goals as goal

pub returns : goal.returns
returns c =
    let prim_is : c.self.inside.prim.now ≡ c.args.self.now.prim = ap (λ (on : OnTile). on.prim) c.self.view_is in
    let range : IsInRange c.args.self.now.prim = rw prim_is at c.self.invariant.on_tile.in_range in
    let x = x_of c.args.self.now c.args.spot.now.column in
    let y = y_of c.args.self.now c.args.spot.now.row in
    let positive : pos 0 <ℤ scaled_total c.args.self.now.prim x y = rw c.requires.by at c.args.by.now.positive in
    let is : c.quotient.result ≡ floor_div (scaled_sum c.args.self.now.prim (λ v. v.fog) x y) (unsigned_abs (scaled_total c.args.self.now.prim x y)) =
    c.quotient.ensures (λ v. v.fog) c.requires.fog in
    let fits : FitsSigned w64 c.quotient.result = search rules in
    let nearest : c.saturate.result.0 ≡ nearest_fixed c.quotient.result = simp to_z-of_z at c.saturate.ensures in
    c.c8.ensures ∙ fog-scaled c.args.self.now.prim x y c.quotient.result c.saturate.result.0 range positive is nearest
