use Rattle.std.proofs.Common.{◌≡◌, ◌<◌, ◌∙◌, Some, ap, arith, get_or, length}
use Rattle.std.specs.Prelude.{unsigned_abs}
use Rattle.std.proofs.lemmas.List.{get_or_default, length-set}
use Rattle.fx_arith.specs.Number.{floor_div, nearest_fixed}
use Rattle.plane_equations.specs.Planes.{plane_at}
use Rattle.interpolation.specs.declared.spot.Spot.{Spot}
use Rattle.interpolation.specs.Rows.{blank_spot}
use Rattle.interpolation.proofs.Placed.{placed}
use Rattle.interpolation.proofs.coordinate_rows.divided_row.Goals as goal

pub loop-i-preserved : goal.loop-i-preserved
loop-i-preserved c =
    let values = c.loop-i.values in
    let spots = c.args.spots.now in
    let i = c.loop-i.i in
    let by = c.in-Some.by in
    let inside : i < length values = omega (arith, c.loop-i.invariant.len, c.requires.to, c.loop-i-test.true) in
    let there : i < length spots = omega (arith, c.told-spots, c.requires.to, c.loop-i-test.true) in
    let found : (get_or spots i blank_spot).by ≡ Some by =
    ap (λ (spot : Spot). spot.by) (get_or_default spots i blank_spot c.index-spots-i.result there) ∙ c.in-Some.is in
    record {
      len = length-set values i c.divided_value.result ∙ c.loop-i.invariant.len;
      done = λ divisor are.
          let here : by.divisor ≡ divisor i = rw found at (are i c.loop-i.auto.i c.loop-i-test.true) in
          placed values c.args.from i c.divided_value.result
          (λ j. nearest_fixed (floor_div (plane_at c.args.plane j c.args.row) (unsigned_abs (divisor j)))) inside
          (c.loop-i.invariant.done divisor are) (rw here at c.divided_value.ensures);
    }
