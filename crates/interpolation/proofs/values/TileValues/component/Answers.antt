use Rattle.std.proofs.Common.{ap, rules, ◌≡◌, ◌∙◌, FitsSigned, w64}
use Rattle.std.specs.Prelude.{pos, ◌<ℤ◌, slice_index, unsigned_abs}
use Rattle.std.proofs.lemmas.Int.{to_z-of_z}
use Rattle.fx_arith.specs.Number.{floor_div}
use Rattle.gl_records.specs.Valid.{IsInRange}
use Rattle.interpolation.specs.Factors.{scaled_sum, scaled_total}
use Rattle.interpolation.specs.TileValues.{OnTile, x_of, y_of}
use Rattle.interpolation.proofs.Scaled.{component-scaled, interpolated-scaled}
use Rattle.interpolation.proofs.values.TileValues.component.Goals as goal

pub byte-requires-clause-from : goal.byte-requires-clause-from
byte-requires-clause-from c =
    let prim_is : c.self.inside.prim.now ≡ c.args.self.now.prim = ap (λ (on : OnTile). on.prim) c.self.view_is in
    let range : IsInRange c.args.self.now.prim = rw prim_is at c.self.invariant.on_tile.in_range in
    let x = x_of c.args.self.now c.args.spot.now.column in
    let y = y_of c.args.self.now c.args.spot.now.row in
    let positive : pos 0 <ℤ scaled_total c.args.self.now.prim x y = rw c.requires.by at c.args.by.now.positive in
    let is : c.quotient.result ≡ floor_div (scaled_sum c.args.self.now.prim (λ v. pos (slice_index v.rgba c.args._k)) x y) (unsigned_abs (scaled_total c.args.self.now.prim x y)) =
    c.quotient.ensures (λ v. pos (slice_index v.rgba c.args._k)) c.requires.channel.sum in
    let fits : FitsSigned w64 c.quotient.result = search rules in
    simp to_z-of_z
    (rw is (component-scaled c.args.self.now.prim c.args._k x y range positive c.requires.covered c.requires.channel.first c.requires.channel.second c.requires.channel.third).0)

pub byte-requires-clause-to : goal.byte-requires-clause-to
byte-requires-clause-to c =
    let prim_is : c.self.inside.prim.now ≡ c.args.self.now.prim = ap (λ (on : OnTile). on.prim) c.self.view_is in
    let range : IsInRange c.args.self.now.prim = rw prim_is at c.self.invariant.on_tile.in_range in
    let x = x_of c.args.self.now c.args.spot.now.column in
    let y = y_of c.args.self.now c.args.spot.now.row in
    let positive : pos 0 <ℤ scaled_total c.args.self.now.prim x y = rw c.requires.by at c.args.by.now.positive in
    let is : c.quotient.result ≡ floor_div (scaled_sum c.args.self.now.prim (λ v. pos (slice_index v.rgba c.args._k)) x y) (unsigned_abs (scaled_total c.args.self.now.prim x y)) =
    c.quotient.ensures (λ v. pos (slice_index v.rgba c.args._k)) c.requires.channel.sum in
    let fits : FitsSigned w64 c.quotient.result = search rules in
    simp to_z-of_z
    (rw is (component-scaled c.args.self.now.prim c.args._k x y range positive c.requires.covered c.requires.channel.first c.requires.channel.second c.requires.channel.third).1)

pub returns : goal.returns
returns c =
    let prim_is : c.self.inside.prim.now ≡ c.args.self.now.prim = ap (λ (on : OnTile). on.prim) c.self.view_is in
    let range : IsInRange c.args.self.now.prim = rw prim_is at c.self.invariant.on_tile.in_range in
    let x = x_of c.args.self.now c.args.spot.now.column in
    let y = y_of c.args.self.now c.args.spot.now.row in
    let positive : pos 0 <ℤ scaled_total c.args.self.now.prim x y = rw c.requires.by at c.args.by.now.positive in
    let is : c.quotient.result ≡ floor_div (scaled_sum c.args.self.now.prim (λ v. pos (slice_index v.rgba c.args._k)) x y) (unsigned_abs (scaled_total c.args.self.now.prim x y)) =
    c.quotient.ensures (λ v. pos (slice_index v.rgba c.args._k)) c.requires.channel.sum in
    let fits : FitsSigned w64 c.quotient.result = search rules in
    let byte : c.byte.result ≡ unsigned_abs c.quotient.result = simp to_z-of_z at c.byte.ensures in
    byte ∙ rw (is, interpolated-scaled c.args.self.now.prim (λ v. pos (slice_index v.rgba c.args._k)) x y range positive)
