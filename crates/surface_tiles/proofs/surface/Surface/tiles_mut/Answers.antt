use Rattle.std.proofs.Common.{refl, ap, ◌∙◌, ◌++◌, ℕ, length, take, drop, arith, ◌≡◌}
use Rattle.surface_tiles.specs.Tiled.{Tiled}
use Rattle.surface_tiles.proofs.surface.Surface.tiles_mut.Goals as goal

pub returns : goal.returns
returns c =
    let tiles = c.self.inside.tiles in
    let len : tiles.len ≡ length tiles.items = omega (arith, tiles.ok.0) in
    rw (← c.self.view_is) ((refl, λ w. ap (λ (n : ℕ). let next : Tiled = record { size = c.self.inside.size; tiles = take n (w ++ drop (length w) tiles.items) } in next) len), record { lends = _; value = c.as_mut_slice.ensures.value; count = c.as_mut_slice.ensures.len ∙ c.self.invariant.1 })
