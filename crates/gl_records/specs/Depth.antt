-- The depth of a primitive at a pixel (OpenGL 1.5, 3.5.1): the corners' depths, weighted in the window.
use Rattle.std.specs.Prelude.{ℕ, ℤ, pos, unsigned_abs}
use Rattle.fx_arith.specs.Number.{floor_div, clamp}
use Rattle.gl_records.specs.declared.pixel.TheConstants.{GREATEST_DEPTH}
use Rattle.gl_records.specs.declared.prim.Primitive.{Primitive}
use Rattle.gl_records.specs.Weights.{weighted_sum}

-- the depth at the centre of pixel (x, y), clamped to 0 to 16777215, for a primitive that covers the pixel
unfoldable pub depth : Primitive → ℤ → ℤ → ℕ
depth p x y =
    let sum_of_weights = weighted_sum p (λ v. pos 1) x y in
    unsigned_abs (clamp (pos 0) (pos GREATEST_DEPTH) (floor_div (weighted_sum p (λ v. v.z) x y) (unsigned_abs sum_of_weights)))
