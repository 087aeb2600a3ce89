use Rattle.std.proofs.Common.{rules, ◌≡◌, ◌∙◌, sym, pos, unsigned_abs}
use Rattle.fx_arith.specs.Number.{clamp}
use Rattle.gl_records.specs.declared.pixel.TheConstants.{GREATEST_DEPTH}
use Rattle.gl_records.specs.Coverage.{corner}
use Rattle.interpolation.proofs.Levels.{depth-same}
use Rattle.interpolation.proofs.depths.slope_of.Goals as goal

pub returns-then-is_level : goal.returns-then-is_level
returns-then-is_level c x y covered =
    let p = c.args.prim.now in
    let same = c.is_level.ensures c.if-is_level.true in
    let found : c.clamped.result ≡ unsigned_abs (clamp (pos 0) (pos GREATEST_DEPTH) (corner p 0).z) = search rules in
    depth-same p x y c.requires.in_range covered same.0 same.1 ∙ sym found
