-- The half vector (OpenGL ES 1.1.12, 2.12.1).
use Rattle.std.specs.Prelude.{List, [], ◌∷◌}
use Rattle.fx_arith.specs.declared.fx.Fx.{Fx}
use Rattle.fx_arith.specs.Number.{add, component, fixed, one}
use Rattle.fx_arith.specs.Vector.{normalise3}

-- halfway between the direction to the light and that to the eye, which is 0 0 1
unfoldable pub half : List Fx → List Fx
half l = normalise3 (fixed (component l 0) ∷ fixed (component l 1) ∷ fixed (add (component l 2) one) ∷ [])
