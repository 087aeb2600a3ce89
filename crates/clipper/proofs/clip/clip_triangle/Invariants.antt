use Rattle.std.proofs.Common.{◌≡◌, ◌≤◌, ◌+◌, take, length}
use Rattle.clipper.specs.Polygon.{clipped_polygon}
use Rattle.clipper.proofs.clip.clip_triangle.Given as goal

abbrev pub invariant-loop-corner : goal.invariant-loop-corner
invariant-loop-corner l = l.polygon.items ≡ take l.corner-index l.v

abbrev pub invariant-loop-side : goal.invariant-loop-side
invariant-loop-side l = record {
  done : l.polygon.items ≡ clipped_polygon l.v (take l.side-index l.side-items);
  amount : length l.polygon.items ≤ 3 + l.side-index;
}
