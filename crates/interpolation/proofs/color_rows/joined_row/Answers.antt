use Rattle.std.proofs.Common.{◌<◌, ◌∙◌, ℕ, List, [], arith, length}
use Rattle.std.proofs.lemmas.List.{length-set}
use Rattle.fx_arith.specs.Number.{component}
use Rattle.interpolation.specs.Rows.{IsJoined}
use Rattle.interpolation.proofs.Placed.{placed-all}
use Rattle.interpolation.proofs.color_rows.joined_row.Goals as goal

pub loop-i-preserved : goal.loop-i-preserved
loop-i-preserved c =
    let colors = c.loop-i.colors in
    let i = c.loop-i.i in
    let rows = c.args.rows.now in
    let inside : i < length colors = omega (arith, c.loop-i.invariant.len, c.loop-i-test.true) in
    record {
      len = length-set colors i c.joined.result ∙ c.loop-i.invariant.len;
      done = placed-all colors i c.joined.result []
          (λ (j : ℕ) (color : List ℕ). IsJoined (component rows.red j) (component rows.green j) (component rows.blue j) (component rows.alpha j) color)
          inside c.loop-i.invariant.done c.joined.ensures;
    }

pub returns : goal.returns
returns c i less = c.loop-i.invariant.done i (omega (arith, less, c.loop-i-test.false))
