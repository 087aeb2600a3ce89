-- Rho by the coordinates.
use Rattle.std.specs.Prelude.{ℕ, ℤ, pos, ◌+ℤ◌, ◌+◌, ◌≡◌}
use Rattle.std.proofs.Common.{arith, refl}
use Rattle.std.proofs.lemmas.Int.{ints}
use Rattle.gl_records.specs.declared.prim.Primitive.{Primitive}
use Rattle.gl_records.specs.declared.prim.PrimKind.{PrimKind}
use Rattle.gl_records.specs.declared.prim.PrimKind.TheVariants.{Point, Line, Triangle}
use Rattle.gl_records.specs.LevelOfDetail.{rho, rho_as}
use Rattle.interpolation.specs.declared.coordinates.Coordinates.{Coordinates}
use Rattle.interpolation.specs.Coordinates.{AreCoordinates}
use Rattle.interpolation.specs.TileValues.{OnTile, x_of, y_of}
use Rattle.texture_env.specs.Coordinates.{greatest_move}

-- rho of a point
pub rho-point : (p : Primitive) (unit w h : ℕ) (x y : ℤ) → p.kind ≡ Point → 0 ≡ rho p unit w h x y
unfolding rho
rho-point p unit w h x y e = rw e

moves-as : (kind : PrimKind) (p : Primitive) (unit w h : ℕ) (x y : ℤ) (here right up : Coordinates) → (kind ≡ Point → ⊥)
    → AreCoordinates here p unit x y → AreCoordinates right p unit (x +ℤ pos 1) y → AreCoordinates up p unit x (y +ℤ pos 1)
    → greatest_move w h here right up ≡ rho_as kind p unit w h x y
moves-as Point p unit w h x y here right up other a b c = absurd (other refl)
moves-as Line p unit w h x y here right up other a b c =
    rw (a.known, b.known, c.known, a.s, a.t, b.s, b.t, c.s, c.t)
moves-as Triangle p unit w h x y here right up other a b c =
    rw (a.known, b.known, c.known, a.s, a.t, b.s, b.t, c.s, c.t)

-- rho of any other primitive
pub rho-moves : (p : Primitive) (unit w h : ℕ) (x y : ℤ) (here right up : Coordinates) → (p.kind ≡ Point → ⊥)
    → AreCoordinates here p unit x y → AreCoordinates right p unit (x +ℤ pos 1) y → AreCoordinates up p unit x (y +ℤ pos 1)
    → greatest_move w h here right up ≡ rho p unit w h x y
unfolding rho
rho-moves p unit w h x y here right up other a b c = moves-as p.kind p unit w h x y here right up other a b c

-- the pixel of the next column or row
next : (a b : ℕ) → pos (a + (b + 1)) ≡ pos (a + b) +ℤ pos 1
next a b = omega (arith, ints)

-- and at a pixel of a tile, where the next ones are its too
pub rho-known : (on : OnTile) (unit w h column row : ℕ) (here right up : Coordinates) → (on.prim.kind ≡ Point → ⊥)
    → AreCoordinates here on.prim unit (x_of on column) (y_of on row)
    → AreCoordinates right on.prim unit (x_of on (column + 1)) (y_of on row)
    → AreCoordinates up on.prim unit (x_of on column) (y_of on (row + 1))
    → greatest_move w h here right up ≡ rho on.prim unit w h (x_of on column) (y_of on row)
rho-known on unit w h column row here right up other a b c =
    let x = x_of on column in
    let y = y_of on row in
    let beside : AreCoordinates right on.prim unit (x +ℤ pos 1) y = rw (next on.rect.x0 column) at b in
    let above : AreCoordinates up on.prim unit x (y +ℤ pos 1) = rw (next on.rect.y0 row) at c in
    rho-moves on.prim unit w h x y here right up other a beside above
