use Rattle.std.proofs.Common.{◌≡◌, ◌++◌}
use Rattle.pixel_unpack.specs.Palette.{named_texels}
use Rattle.pixel_unpack.proofs.palette.push_by_nibbles.Given as goal

abbrev pub invariant-loop-k : goal.invariant-loop-k
invariant-loop-k l = l.texels.items ≡ l.fn.texels.items ++ named_texels l.palette 4 l.piece l.start l.k
