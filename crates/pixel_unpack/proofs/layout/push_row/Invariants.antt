use Rattle.std.proofs.Common.{◌≡◌, ◌++◌, map}
use Rattle.std.specs.List.{range_with_len}
use Rattle.pixel_unpack.proofs.layout.push_row.Given as goal

abbrev pub invariant-loop-x : goal.invariant-loop-x
invariant-loop-x g l = l.texels.items ≡ l.fn.texels.items ++ map (λ x. g.L.Layout.texel l.piece l.start x) (range_with_len 0 l.x)
