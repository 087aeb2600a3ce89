use Rattle.std.proofs.Common.{◌≡◌, ◌≤◌, ◌+◌, ◌*◌, ◌^◌}
use Rattle.pixel_unpack.specs.Palette.{palette_size}
use Rattle.pixel_unpack.proofs.levels.palette_size.Given as goal

abbrev pub invariant-loop-level : goal.invariant-loop-level
invariant-loop-level l = record {
  so_far : l.size ≡ palette_size l.fn.format l.fn.w l.fn.h l.level;
  most : l.size ≤ 1024 + l.level * 2 ^ 32;
}
