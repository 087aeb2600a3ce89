use Rattle.std.proofs.Common.{arith, FitsSigned, w32}
use Rattle.std.specs.Prelude.{pos, ◌≤◌}
use Rattle.std.proofs.lemmas.Int.{ints, to_z-of_z}
use Rattle.interpolation.proofs.Bounds.{HasSmallWeights-near, near-place}
use Rattle.interpolation.proofs.frame.Frame.new.Goals as goal

pub scaled_shares_at-requires-clause-small : goal.scaled_shares_at-requires-clause-small
scaled_shares_at-requires-clause-small c =
    let column : c.args.rect.x0 ≤ 1040 = omega (arith, c.requires.column) in
    let band : c.args.rect.y0 ≤ 1040 = omega (arith, c.requires.band) in
    let x_fits : FitsSigned w32 (pos c.args.rect.x0) = omega (arith, ints) in
    let y_fits : FitsSigned w32 (pos c.args.rect.y0) = omega (arith, ints) in
    rw (c.from.ensures, c.from-2.ensures) (simp to_z-of_z (HasSmallWeights-near c.args.prim.now _ _ c.requires.in_range (near-place c.args.rect.x0 column) (near-place c.args.rect.y0 band)))
