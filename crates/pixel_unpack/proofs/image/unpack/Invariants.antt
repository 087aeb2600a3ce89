use Rattle.std.proofs.Common.{◌≡◌}
use Rattle.std.specs.List.{flat_map, range_with_len}
use Rattle.pixel_unpack.specs.Image.{texel_row, row_start}
use Rattle.pixel_unpack.proofs.image.unpack.Given as goal

abbrev pub invariant-loop-y : goal.invariant-loop-y
invariant-loop-y l =
    l.texels.items ≡ flat_map (λ y. texel_row l.fn.format l.fn.kind l.fn.w l.fn.piece (row_start l.fn.format l.fn.kind l.fn.align l.fn.w y)) (range_with_len 0 l.y)
