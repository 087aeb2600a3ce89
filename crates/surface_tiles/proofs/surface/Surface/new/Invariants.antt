use Rattle.std.proofs.Common.{◌≡◌, replicate, vec_len}
use Rattle.surface_tiles.specs.Tiled.{opening_tile}
use Rattle.surface_tiles.proofs.surface.Surface.new.Given as goal

abbrev pub invariant-loop : goal.invariant-loop
invariant-loop l = record {
  tiles : l.tiles.items ≡ replicate l.counter opening_tile;
  len : vec_len l.tiles ≡ l.counter;
}
