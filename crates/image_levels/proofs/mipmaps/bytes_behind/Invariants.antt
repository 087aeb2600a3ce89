use Rattle.std.proofs.Common.{◌≡◌, ◌≤◌, ◌*◌, ◌^◌, map}
use Rattle.std.specs.List.{range_with_len, sum}
use Rattle.image_levels.specs.Mipmaps.{bytes_then}
use Rattle.image_levels.proofs.mipmaps.bytes_behind.Given as goal

abbrev pub invariant-loop-before : goal.invariant-loop-before
invariant-loop-before l = record {
  so_far : l.bytes ≡ sum (map (λ k. bytes_then l.set.levels l.w l.h k) (range_with_len 1 l.before));
  most : l.bytes ≤ l.before * 2 ^ 66;
}
