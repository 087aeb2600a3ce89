-- The level of detail (OpenGL ES 1.1.12, 3.7, "Texture Minification"): how far S and T move from a pixel to the next,
-- in texels of level 0, and the logarithm of that.
use Rattle.std.specs.Prelude.{ℕ, ℤ, pos, negsuc, ◌-◌, ◌*◌, ◌/◌, ◌^◌, ◌==◌, ◌+ℤ◌, ◌-ℤ◌, ◌*ℤ◌, Bool, ◌&&◌, max, unsigned_abs, if◌then◌else◌}
use Rattle.gl_records.specs.declared.prim.Primitive.{Primitive}
use Rattle.gl_records.specs.declared.prim.PrimKind.{PrimKind}
use Rattle.gl_records.specs.declared.prim.PrimKind.TheVariants.{Point, Line, Triangle}
use Rattle.gl_records.specs.TextureCoordinate.{has_coordinates, s_at, t_at}
use Rattle.gl_records.specs.TopBit.{top_bit}

-- how far a coordinate moves along a side of so many texels, in 1/65536 texel
abbrev pub moved : ℤ → ℤ → ℕ → ℕ
moved from to side = unsigned_abs (to -ℤ from) * side

-- how far a unit's coordinates move from the centre of pixel (x, y) to that of pixel (next_x, next_y), in 1/65536
-- texel of a level 0 of w by h texels: the greater of both directions
abbrev pub moved_to : Primitive → ℕ → (w h : ℕ) → (x y next_x next_y : ℤ) → ℕ
moved_to p unit w h x y next_x next_y =
    max (moved (s_at p unit x y) (s_at p unit next_x next_y) w) (moved (t_at p unit x y) (t_at p unit next_x next_y) h)

-- the unit has coordinates at the pixel, at the next to the right and at the next above
abbrev pub has_neighbors : Primitive → ℕ → ℤ → ℤ → Bool
has_neighbors p unit x y =
    has_coordinates p unit x y && has_coordinates p unit (x +ℤ pos 1) y && has_coordinates p unit x (y +ℤ pos 1)

-- the greatest move to these neighbours; 0 where one of the three has no coordinates
abbrev pub rho_of_neighbors : Primitive → ℕ → (w h : ℕ) → (x y : ℤ) → ℕ
rho_of_neighbors p unit w h x y =
    if has_neighbors p unit x y
    then max (moved_to p unit w h x y (x +ℤ pos 1) y) (moved_to p unit w h x y x (y +ℤ pos 1))
    else 0

abbrev pub rho_as : PrimKind → Primitive → ℕ → (w h : ℕ) → (x y : ℤ) → ℕ
rho_as Point p unit w h x y = 0
rho_as Line p unit w h x y = rho_of_neighbors p unit w h x y
rho_as Triangle p unit w h x y = rho_of_neighbors p unit w h x y

-- the scale factor rho of a primitive for a unit at pixel (x, y), in 1/65536 texel of a level 0 of w by h texels
unfoldable pub rho : Primitive → ℕ → (w h : ℕ) → (x y : ℤ) → ℕ
rho p unit w h x y = rho_as p.kind p unit w h x y

-- lambda, the logarithm of base 2 of rho, in 1/256: between powers of two it runs straight, rounded down; -128 for
-- a rho of 0
unfoldable pub lambda : ℕ → ℤ
lambda scale =
    if scale == 0 then negsuc 32767 else
    (pos 256 *ℤ (pos (top_bit scale) -ℤ pos 16)) +ℤ pos ((scale - 2 ^ top_bit scale) * 256 / 2 ^ top_bit scale)
