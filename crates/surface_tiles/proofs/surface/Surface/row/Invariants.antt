use Rattle.std.proofs.Common.{◌≡◌, ◌*◌, length, take, map}
use Rattle.std.specs.List.{range_with_len}
use Rattle.gl_records.specs.Surface.{row_bytes}
use Rattle.surface_tiles.specs.Tiled.{kept_pixel}
use Rattle.surface_tiles.proofs.surface.Surface.row.Given as goal

abbrev pub invariant-loop-x : goal.invariant-loop-x
invariant-loop-x l = record {
  len : length l.into ≡ 4 * l.self.size.w;
  front : take (4 * l.x) l.into ≡ row_bytes (map (λ x. kept_pixel l.self x l.y) (range_with_len 0 l.x));
}
