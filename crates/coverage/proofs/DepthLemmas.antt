-- The depth at a pixel.
use Rattle.std.specs.Prelude.{ℕ, ℤ, pos, ◌+ℤ◌, ◌*ℤ◌, ◌≡◌, unsigned_abs}
use Rattle.std.proofs.Common.{arith, FitsSigned, w32}
use Rattle.std.proofs.lemmas.Int.{ints}
use Rattle.fx_arith.specs.Number.{clamp, floor_div}
use Rattle.gl_records.specs.declared.prim.Primitive.{Primitive}
use Rattle.gl_records.specs.declared.prim.VertexOut.{VertexOut}
use Rattle.gl_records.specs.Coverage.{corner}
use Rattle.gl_records.specs.Depth.{depth}
use Rattle.gl_records.specs.declared.pixel.TheConstants.{GREATEST_DEPTH}
use Rattle.gl_records.specs.Valid.{IsCornerInRange}
use Rattle.gl_records.specs.Weights.{weight, weighted_sum}

ones : (u v w : ℤ) → u +ℤ v +ℤ w ≡ (u *ℤ pos 1) +ℤ (v *ℤ pos 1) +ℤ (w *ℤ pos 1)
ones u v w = omega (arith, ints)

pub depth-from : (p : Primitive) (x y sum total : ℤ) (r : ℕ)
    → sum ≡ (weight p 0 x y *ℤ (corner p 0).z) +ℤ (weight p 1 x y *ℤ (corner p 1).z) +ℤ (weight p 2 x y *ℤ (corner p 2).z)
    → total ≡ weight p 0 x y +ℤ weight p 1 x y +ℤ weight p 2 x y
    → r ≡ unsigned_abs (clamp (pos 0) (pos GREATEST_DEPTH) (floor_div sum (unsigned_abs total))) → r ≡ depth p x y
unfolding depth weighted_sum
depth-from p x y sum total r first second third =
    let all = ones (weight p 0 x y) (weight p 1 x y) (weight p 2 x y) in
    rw (third, first, second, all)

pub z-fits : {v : VertexOut} → IsCornerInRange v → FitsSigned w32 v.z
z-fits {v} h = omega (arith, ints)
