use Rattle.std.specs.Prelude.{pos}
use Rattle.interpolation.proofs.Bounds.{HasSmallWeights-near, near-first, near-second}
use Rattle.interpolation.proofs.slopes.slopes_of.Goals as goal

pub scaled_shares_at-first-requires-clause-small : goal.scaled_shares_at-first-requires-clause-small
scaled_shares_at-first-requires-clause-small c = HasSmallWeights-near c.args.prim.now (pos 0) (pos 0) c.requires near-first near-first

pub scaled_shares_at-right-requires-clause-small : goal.scaled_shares_at-right-requires-clause-small
scaled_shares_at-right-requires-clause-small c = HasSmallWeights-near c.args.prim.now (pos 1) (pos 0) c.requires near-second near-first

pub scaled_shares_at-above-requires-clause-small : goal.scaled_shares_at-above-requires-clause-small
scaled_shares_at-above-requires-clause-small c = HasSmallWeights-near c.args.prim.now (pos 0) (pos 1) c.requires near-first near-second
