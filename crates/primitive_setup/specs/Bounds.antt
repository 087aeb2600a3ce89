-- Boxes of pixels about a primitive, cut to the surface; a triangle's is that of the pixels whose centres lie in
-- the closed box of its corners (this project's profile).
use Rattle.std.specs.Prelude.{ℕ, ℤ, pos, ◌+ℤ◌, ◌≤ℤ◌, ◌<◌, ◌↔◌, Bool, ◌||◌, int_le, IsTrue}
use Rattle.std.specs.Int.{int_max, int_min}
use Rattle.fx_arith.specs.Number.{floor_div}
use Rattle.gl_records.specs.declared.pixel_box.PixelBox.{PixelBox}
use Rattle.gl_records.specs.declared.prim.VertexOut.{VertexOut}
use Rattle.gl_records.specs.declared.size.Size.{Size}
use Rattle.gl_records.specs.declared.prim.PrimKind.{PrimKind}
use Rattle.gl_records.specs.declared.prim.PrimKind.TheVariants.{Point, Line, Triangle}
use Rattle.gl_records.specs.declared.prim.Primitive.{Primitive}
use Rattle.gl_records.specs.Center.{center}
use Rattle.gl_records.specs.Coverage.{corner, covers}
use Rattle.gl_records.specs.PixelBox.{holds}

-- of three numbers, the least and the greatest
abbrev pub least : ℤ → ℤ → ℤ → ℤ
least a b c = int_min a (int_min b c)

abbrev pub greatest : ℤ → ℤ → ℤ → ℤ
greatest a b c = int_max a (int_max b c)

-- the first column, or row, of the surface whose centre is at the place or past it
abbrev pub first_from : ℤ → ℤ
first_from place = int_max (pos 0) (floor_div (place +ℤ pos 7) 16)

-- one past the last column, or row, of the surface whose centre is at the place or short of it
abbrev pub end_at : ℤ → ℤ → ℤ
end_at place side = int_min side (floor_div (place +ℤ pos 8) 16)

-- from the first column and row to the last, cut to the surface
unfoldable pub bounds_of : Size → VertexOut → VertexOut → VertexOut → PixelBox
bounds_of size a b c = record {
  x0 = first_from (least a.x b.x c.x);
  y0 = first_from (least a.y b.y c.y);
  x1 = end_at (greatest a.x b.x c.x) (pos size.w);
  y1 = end_at (greatest a.y b.y c.y) (pos size.h);
}

-- the pixels of the surface from a column and a row on, to a column and a row, these two excluded
abbrev pub cut : Size → (left bottom right top : ℤ) → PixelBox
cut size left bottom right top = record {
  x0 = int_max (pos 0) left;
  y0 = int_max (pos 0) bottom;
  x1 = int_min (pos size.w) right;
  y1 = int_min (pos size.h) top;
}

-- the box holds no pixel
abbrev pub is_empty : PixelBox → Bool
is_empty area = int_le area.x1 area.x0 || int_le area.y1 area.y0

-- the centre of pixel (x, y) lies in the closed box of the corners
pub record IsCenterWithin (a b c : VertexOut) (x y : ℤ) : Type 0 where
  pub left : least a.x b.x c.x ≤ℤ center x
  pub right : center x ≤ℤ greatest a.x b.x c.x
  pub bottom : least a.y b.y c.y ≤ℤ center y
  pub top : center y ≤ℤ greatest a.y b.y c.y

-- the box holds exactly the pixels of the surface whose centres lie in the closed box of the corners
abbrev pub HoldsCenters : PixelBox → Size → VertexOut → VertexOut → VertexOut → Type 0
HoldsCenters area size a b c =
    (x y : ℕ) → IsTrue (holds area x y) ↔ ((x < size.w) × (y < size.h) × IsCenterWithin a b c (pos x) (pos y))

-- the box holds exactly the pixels of the surface that the primitive covers
abbrev pub HoldsCovered : PixelBox → Size → Primitive → Type 0
HoldsCovered area size prim = (x y : ℕ) → IsTrue (holds area x y) ↔ ((x < size.w) × (y < size.h) × IsTrue (covers prim (pos x) (pos y)))

-- the bounds of a triangle hold exactly the pixels with their centres in the box of its corners, a point's exactly
-- those that it covers; a line's hold more
abbrev pub AreBoundsOf : PrimKind → Size → Primitive → Type 0
AreBoundsOf Triangle size prim = HoldsCenters prim.bounds size (corner prim 0) (corner prim 1) (corner prim 2)
AreBoundsOf Point size prim = HoldsCovered prim.bounds size prim
AreBoundsOf Line size prim = Unit {0}
