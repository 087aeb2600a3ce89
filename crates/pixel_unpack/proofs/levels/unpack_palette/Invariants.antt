use Rattle.std.proofs.Common.{◌≡◌, ◌≤◌, ◌+◌, ◌*◌, ◌^◌}
use Rattle.pixel_unpack.specs.Palette.{palette_size, palette_levels}
use Rattle.pixel_unpack.proofs.levels.unpack_palette.Given as goal

abbrev pub invariant-loop-i : goal.invariant-loop-i
invariant-loop-i l = record {
  so_far : l.all.items ≡ palette_levels l.fn.format l.fn.w l.fn.h l.i l.fn.piece;
  behind : l.start ≡ palette_size l.fn.format l.fn.w l.fn.h l.i;
  most : l.start ≤ 1024 + l.i * 2 ^ 32;
}
