use Rattle.std.proofs.Common.{arith, ◌∙◌}
use Rattle.std.specs.Prelude.{pos, ◌+ℤ◌}
use Rattle.std.proofs.lemmas.Int.{ints}
use Rattle.interpolation.proofs.Bounds.{HasSmallWeights-near, IsNear}
use Rattle.interpolation.proofs.Neighbors.{AreShares-above, AreShares-next, AreShares-right}
use Rattle.texture_env.proofs.Rhos.{rho-moves, rho-point}
use Rattle.texture_env.proofs.moves.rho.Goals as goal

zero : IsNear (pos 0)
zero = record { from = omega (arith, ints); to = omega (arith, ints) }

one : IsNear (pos 1)
one = record { from = omega (arith, ints); to = omega (arith, ints) }

pub returns-in-Point : goal.returns-in-Point
returns-in-Point c x y shares here = rho-point c.args.prim.now c.args.unit c.args.w c.args.h x y c.in-Point.is

pub shares_at-origin-requires : goal.shares_at-origin-requires
shares_at-origin-requires c = record {
  in_range = c.requires.in_range;
  small = HasSmallWeights-near c.args.prim.now (pos 0) (pos 0) c.requires.in_range zero zero;
}

pub shares_at-requires : goal.shares_at-requires
shares_at-requires c = record {
  in_range = c.requires.in_range;
  small = HasSmallWeights-near c.args.prim.now (pos 1) (pos 0) c.requires.in_range one zero;
}

pub shares_at-requires-2 : goal.shares_at-requires-2
shares_at-requires-2 c = record {
  in_range = c.requires.in_range;
  small = HasSmallWeights-near c.args.prim.now (pos 0) (pos 1) c.requires.in_range zero one;
}

pub returns : goal.returns
returns c x y shares here =
    let p = c.args.prim.now in
    let origin = c.shares_at-origin.ensures.shares in
    let right = AreShares-right p x y c.beyond-right.result
    (AreShares-next p x y (pos 1) (pos 0) c.args.shares.now c.shares_at-origin.result c.shares_at.result c.beyond-right.result
    shares origin c.shares_at.ensures.shares c.beyond-right.ensures.first c.beyond-right.ensures.second c.beyond-right.ensures.third) in
    let up = AreShares-above p x y c.beyond-above.result
    (AreShares-next p x y (pos 0) (pos 1) c.args.shares.now c.shares_at-origin.result c.shares_at-2.result c.beyond-above.result
    shares origin c.shares_at-2.ensures.shares c.beyond-above.ensures.first c.beyond-above.ensures.second c.beyond-above.ensures.third) in
    c.greatest_move.ensures
    ∙ rho-moves p c.args.unit c.args.w c.args.h x y c.args.here c.coordinates_at.result c.coordinates_at-2.result c.in_default.not-Point here
    (c.coordinates_at.ensures (x +ℤ pos 1) y right) (c.coordinates_at-2.ensures x (y +ℤ pos 1) up)
