use Rattle.std.proofs.Common.{◌≡◌, ◌≤◌, ◌*◌, ◌^◌, take}
use Rattle.std.specs.List.{sum_by}
use Rattle.gl_records.specs.ImageBytes.{level_bytes}
use Rattle.gl_records.proofs.level.all_bytes.Given as goal

abbrev pub invariant-loop-level : goal.invariant-loop-level
invariant-loop-level l = record {
  so_far : l.total ≡ sum_by level_bytes (take l.level-index l.levels);
  most : l.total ≤ l.level-index * 2 ^ 66;
}
