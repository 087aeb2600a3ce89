-- Worked examples of the coordinates and of rho, which no call computes yet.
use Rattle.std.proofs.Common.{◌≡◌, ◌^◌, [], ◌∷◌, refl}
use Rattle.std.specs.Prelude.{ℤ, pos}
use Rattle.gl_records.specs.declared.prim.Primitive.{Primitive}
use Rattle.gl_records.specs.declared.prim.PrimKind.{PrimKind}
use Rattle.gl_records.specs.declared.prim.PrimKind.TheVariants.{Point, Triangle}
use Rattle.gl_records.specs.declared.prim.VertexOut.{VertexOut}
use Rattle.gl_records.specs.Coverage.{doubled_area}
use Rattle.gl_records.specs.LevelOfDetail.{rho}
use Rattle.gl_records.specs.TextureCoordinate.{coordinate, coordinate_sum, s_at, t_at}
use Rattle.gl_records.specs.Weights.{weight, weighted_sum}

-- a corner at a place in 1/16 pixel, with coordinates s, t and q of both units in 1/65536
abbrev corner : (x y s t q : ℤ) → VertexOut
corner x y s t q = record {
  x = x;
  y = y;
  z = pos 0;
  q = 2 ^ 15;
  rgba = [];
  tex = (s ∷ t ∷ q ∷ []) ∷ (s ∷ t ∷ q ∷ []) ∷ [];
  fog = pos 0;
}

-- 64 pixels along both sides, over which S goes from 0 to 1 and T from 0 to 2
abbrev half_square : PrimKind → ℤ → Primitive
half_square kind q = record {
  kind = kind;
  verts = corner (pos 0) (pos 0) (pos 0) (pos 0) q ∷ corner (pos 1024) (pos 0) (pos 65536) (pos 0) q ∷ corner (pos 0) (pos 1024) (pos 0) (pos 131072) q ∷ [];
  width = 0;
  bounds = record { x0 = pos 0; y0 = pos 0; x1 = pos 64; y1 = pos 64 };
}

-- half a pixel is 1/128 of S and 1/64 of T
pub s-first : s_at (half_square Triangle (pos 65536)) 0 (pos 0) (pos 0) ≡ pos 512
unfolding coordinate coordinate_sum weighted_sum weight doubled_area
s-first = refl

pub t-first : t_at (half_square Triangle (pos 65536)) 1 (pos 0) (pos 0) ≡ pos 1024
unfolding coordinate coordinate_sum weighted_sum weight doubled_area
t-first = refl

-- a third coordinate of 2 halves both
pub s-halved : s_at (half_square Triangle (pos 131072)) 0 (pos 2) (pos 5) ≡ pos 1280
unfolding coordinate coordinate_sum weighted_sum weight doubled_area
s-halved = refl

-- of 64 by 64 texels a pixel is one along S and two along T, of 256 by 32 it is four and one
pub rho-64_by_64 : rho (half_square Triangle (pos 65536)) 0 64 64 (pos 3) (pos 4) ≡ 131072
unfolding rho coordinate coordinate_sum weighted_sum weight doubled_area
rho-64_by_64 = refl

pub rho-256_by_32 : rho (half_square Triangle (pos 65536)) 0 256 32 (pos 3) (pos 4) ≡ 262144
unfolding rho coordinate coordinate_sum weighted_sum weight doubled_area
rho-256_by_32 = refl

-- no point has one, nor has what has no third coordinate
pub rho-point : rho (half_square Point (pos 65536)) 0 64 64 (pos 0) (pos 0) ≡ 0
unfolding rho
rho-point = refl

pub rho-without_q : rho (half_square Triangle (pos 0)) 0 64 64 (pos 0) (pos 0) ≡ 0
unfolding rho coordinate coordinate_sum weighted_sum weight doubled_area
rho-without_q = refl
