-- How much the corners of a primitive count at a pixel, in perspective (OpenGL 1.5, 3.5.1).
use Rattle.std.specs.Prelude.{◌≡◌, ℕ, ℤ, pos, ◌+ℤ◌, ◌*ℤ◌, ◌≤◌, ◌≤ℤ◌, ◌<ℤ◌, ◌^◌, unsigned_abs}
use Rattle.gl_records.specs.declared.prim.Primitive.{Primitive}
use Rattle.gl_records.specs.Coverage.{corner}
use Rattle.gl_records.specs.TextureCoordinate.{corner_coordinate}
use Rattle.gl_records.specs.Weights.{weight}
use Rattle.interpolation.specs.declared.shares.Shares.{Shares}

-- these are the corners' shares at pixel (x, y)
pub record AreShares (shares : Shares) (p : Primitive) (x y : ℤ) : Type 0 where
  pub first : shares.first ≡ weight p 0 x y *ℤ pos (corner p 0).q
  pub second : shares.second ≡ weight p 1 x y *ℤ pos (corner p 1).q
  pub third : shares.third ≡ weight p 2 x y *ℤ pos (corner p 2).q

-- what the weights at a pixel that the primitive covers, or near the surface's lower left, are within
pub record HasSmallWeights (p : Primitive) (x y : ℤ) : Type 0 where
  pub first : unsigned_abs (weight p 0 x y) ≤ 2 ^ 36
  pub second : unsigned_abs (weight p 1 x y) ≤ 2 ^ 36
  pub third : unsigned_abs (weight p 2 x y) ≤ 2 ^ 36

-- and so are the shares
pub record AreSmall (shares : Shares) : Type 0 where
  pub first : unsigned_abs shares.first ≤ 2 ^ 67
  pub second : unsigned_abs shares.second ≤ 2 ^ 67
  pub third : unsigned_abs shares.third ≤ 2 ^ 67

-- what the shares are where the primitive covers the pixel
pub record ArePositive (shares : Shares) : Type 0 where
  pub first : pos 0 ≤ℤ shares.first
  pub second : pos 0 ≤ℤ shares.second
  pub third : pos 0 ≤ℤ shares.third
  pub some : pos 0 <ℤ (shares.first +ℤ shares.second +ℤ shares.third)

-- the sum of three values, each as often as its corner's share says
abbrev pub shared : Shares → (a b c : ℤ) → ℤ
shared shares a b c = (shares.first *ℤ a) +ℤ (shares.second *ℤ b) +ℤ (shares.third *ℤ c)

-- the same of texture coordinate k of a unit
abbrev pub shared_coordinate : Shares → Primitive → ℕ → ℕ → ℤ
shared_coordinate shares p unit k =
    shared shares (corner_coordinate unit k (corner p 0)) (corner_coordinate unit k (corner p 1)) (corner_coordinate unit k (corner p 2))
