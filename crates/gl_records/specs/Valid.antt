-- Which primitives set-up hands to the rasteriser, and which Clears there are (this project's profile).
use Rattle.std.specs.Prelude.{ℕ, pos, negsuc, ◌≤ℤ◌, ◌<ℤ◌, ◌^◌, ◌<◌, ◌≤◌, Bool, ◌||◌, IsTrue, Option, is_some}
use Rattle.gl_records.specs.declared.clear.ClearItem.{ClearItem}
use Rattle.gl_records.specs.declared.frag_state.FragState.{FragState}
use Rattle.gl_records.specs.declared.level.ImageSet.{ImageSet}
use Rattle.gl_records.specs.declared.pixel_box.PixelBox.{PixelBox}
use Rattle.gl_records.specs.declared.prim.Primitive.{Primitive}
use Rattle.gl_records.specs.declared.prim.PrimKind.{PrimKind}
use Rattle.gl_records.specs.declared.prim.PrimKind.TheVariants.{Point, Line, Triangle}
use Rattle.gl_records.specs.declared.prim.VertexOut.{VertexOut}
use Rattle.gl_records.specs.declared.size.Size.{Size}
use Rattle.gl_records.specs.Captured.{Captured, Draw, Clear}
use Rattle.gl_records.specs.Coverage.{corner, covers}
use Rattle.gl_records.specs.PixelBox.{holds}
use Rattle.gl_records.specs.Shading.{AreReadable}

-- a corner's numbers are those that some viewport and some polygon offset give
pub record IsCornerInRange (v : VertexOut) : Type 0 where
  pub x_from : negsuc 65535 ≤ℤ v.x  -- -65536
  pub x_to : v.x ≤ℤ pos 98304
  pub y_from : negsuc 65535 ≤ℤ v.y
  pub y_to : v.y ≤ℤ pos 98304
  pub z_from : negsuc 33554431 ≤ℤ v.z  -- -33554432
  pub z_to : v.z ≤ℤ pos 50331647
  pub q_from : 1 ≤ v.q
  pub q_to : v.q ≤ 2 ^ 31

-- a point is 1 to 64 pixels wide, a line 1 to 16
abbrev pub IsWidthInRange : PrimKind → ℕ → Type 0
IsWidthInRange Point width = (1 ≤ width) × (width ≤ 64)
IsWidthInRange Line width = (1 ≤ width) × (width ≤ 16)
IsWidthInRange Triangle width = Unit {0}

pub record IsInRange (p : Primitive) : Type 0 where
  pub first : IsCornerInRange (corner p 0)
  pub second : IsCornerInRange (corner p 1)
  pub third : IsCornerInRange (corner p 2)
  pub width : IsWidthInRange p.kind p.width

-- the box lies in the surface, and it is not empty
pub record IsBoxOf (size : Size) (area : PixelBox) : Type 0 where
  pub left : pos 0 ≤ℤ area.x0
  pub bottom : pos 0 ≤ℤ area.y0
  pub right : area.x1 ≤ℤ pos size.w
  pub top : area.y1 ≤ℤ pos size.h
  pub columns : area.x0 <ℤ area.x1
  pub rows : area.y0 <ℤ area.y1

-- the primitive can be drawn on a surface of this size. That a triangle runs counterclockwise is no part of
-- it: one that does not covers no pixel.
pub record IsValid (p : Primitive) (size : Size) : Type 0 where
  pub in_range : IsInRange p
  pub bounds : IsBoxOf size p.bounds
  pub holds_covered : (x y : ℕ) → x < size.w → y < size.h → IsTrue (covers p (pos x) (pos y)) → IsTrue (holds p.bounds x y)

-- the Clear has something to write
abbrev pub has_part : ClearItem → Bool
has_part clear = is_some clear.color || is_some clear.depth || is_some clear.stencil

-- the Clear touches a surface of this size
pub record IsValidClear (clear : ClearItem) (size : Size) : Type 0 where
  pub area : IsBoxOf size clear.area
  pub part : IsTrue (has_part clear)

-- the primitive can be drawn on a surface of this size with these images
pub record IsValidDraw (p : Primitive) (state : FragState) (first second : Option ImageSet) (size : Size) : Type 0 where
  pub primitive : IsValid p size
  pub images : AreReadable state first second

-- an item that a surface of this size can take
abbrev pub IsDrawable : Captured → Size → Type 0
IsDrawable (Draw prim state first second) size = IsValidDraw prim state first second size
IsDrawable (Clear clear) size = IsValidClear clear size
