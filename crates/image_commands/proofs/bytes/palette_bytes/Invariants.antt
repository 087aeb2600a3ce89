use Rattle.std.proofs.Common.{◌≡◌, ◌≤◌, ◌*◌, ◌^◌, map}
use Rattle.std.specs.List.{range_with_len, sum}
use Rattle.image_commands.specs.Bytes.{palette_level_bytes}
use Rattle.image_commands.proofs.bytes.palette_bytes.Given as goal

abbrev pub invariant-loop-k : goal.invariant-loop-k
invariant-loop-k l = record {
  so_far : l.bytes ≡ sum (map (λ k. palette_level_bytes l.image l.w l.h l.levels k) (range_with_len 0 l.k));
  most : l.bytes ≤ l.k * 2 ^ 66;
}
