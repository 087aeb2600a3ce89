use Rattle.std.proofs.Common.{◌<◌, ◌∙◌, arith, length}
use Rattle.std.proofs.lemmas.List.{length-set}
use Rattle.fx_arith.specs.Number.{nearest_fixed}
use Rattle.plane_equations.specs.FixedPlanes.{fixed_at}
use Rattle.interpolation.proofs.Placed.{placed}
use Rattle.interpolation.proofs.coordinate_rows.fixed_row.Goals as goal

pub loop-i-preserved : goal.loop-i-preserved
loop-i-preserved c =
    let values = c.loop-i.values in
    let i = c.loop-i.i in
    let inside : i < length values = omega (arith, c.loop-i.invariant.len, c.requires.to, c.loop-i-test.true) in
    record {
      len = length-set values i c.fixed_value.result ∙ c.loop-i.invariant.len;
      done = placed values c.args.from i c.fixed_value.result (λ j. nearest_fixed (fixed_at c.args.plane j c.args.row)) inside c.loop-i.invariant.done
          c.fixed_value.ensures;
    }
