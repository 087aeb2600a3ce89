-- Boxes about lines and points, cut to the surface: what they hold, and that what is made with them is valid.
use Rattle.std.proofs.Common.{◌≡◌, ℕ, ◌<◌, ◌≤◌, inl, inr, ap, sym, ◌∙◌, refl, lit<, arith}
use Rattle.std.specs.Prelude.{ℤ, pos, ◌+ℤ◌, ◌≤ℤ◌, ◌<ℤ◌, Bool, true, false, ◌&&◌, [], ◌∷◌, IsTrue, Option, Some, None, int_le, int_lt}
use Rattle.std.specs.Int.{int_max, int_min}
use Rattle.std.proofs.lemmas.Int.{ints, clamps}
use Rattle.fx_arith.specs.Number.{floor_div}
use Rattle.fx_arith.proofs.Floors.{floor_div-<, floor_div-≤, ≤-floor_div}
use Rattle.gl_records.specs.declared.pixel_box.PixelBox.{PixelBox}
use Rattle.gl_records.specs.declared.prim.Primitive.{Primitive}
use Rattle.gl_records.specs.declared.prim.PrimKind.TheVariants.{Point, Line}
use Rattle.gl_records.specs.declared.prim.VertexOut.{VertexOut}
use Rattle.gl_records.specs.declared.size.Size.{Size}
use Rattle.gl_records.specs.Center.{center}
use Rattle.gl_records.specs.Coverage.{covers}
use Rattle.gl_records.specs.LineCoverage.{covers_run, first_of_run, is_passed, is_x_major, line_covers, minor_place}
use Rattle.gl_records.specs.PixelBox.{holds}
use Rattle.gl_records.specs.PointCoverage.{first_about, is_among, point_covers}
use Rattle.gl_records.specs.Valid.{IsBoxOf, IsCornerInRange, IsValid}
use Rattle.gl_records.proofs.Lines.{Passed, Passed-from, minor_place-between}
use Rattle.primitive_setup.specs.Bounds.{cut, is_empty, HoldsCovered}
use Rattle.primitive_setup.specs.LineSetup.{are_same_place, end_near, first_near, line_between, line_bounds}
use Rattle.primitive_setup.specs.PointSetup.{point_at, point_bounds}
use Rattle.primitive_setup.specs.Window.{IsInWindow}
use Rattle.primitive_setup.proofs.Boxes.{all_true, four_true, le_true, lt_true}
use Rattle.primitive_setup.proofs.Valid.{either_false}

-- ---- boxes
pub cut_same : (size : Size) (left bottom right top x0 y0 x1 y1 : ℤ)
    → x0 ≡ int_max (pos 0) left → y0 ≡ int_max (pos 0) bottom → x1 ≡ int_min (pos size.w) right → y1 ≡ int_min (pos size.h) top
    → ◌≡◌ {A = PixelBox} (record { x0 = x0; y0 = y0; x1 = x1; y1 = y1 }) (cut size left bottom right top)
cut_same size left bottom right top x0 y0 x1 y1 p q r s = cc

cut_box : (size : Size) (left bottom right top : ℤ) → is_empty (cut size left bottom right top) ≡ false → IsBoxOf size (cut size left bottom right top)
cut_box size left bottom right top h =
    let area = cut size left bottom right top in
    let sides = either_false (int_le area.x1 area.x0) (int_le area.y1 area.y0) h in
    record {
      left = omega (arith, ints, clamps);
      bottom = omega (arith, ints, clamps);
      right = omega (arith, ints, clamps);
      top = omega (arith, ints, clamps);
      columns = omega (arith, ints, sides.0);
      rows = omega (arith, ints, sides.1);
    }

holds_cut : (size : Size) (left bottom right top : ℤ) (x y : ℕ) → x < size.w → y < size.h
    → left ≤ℤ pos x → pos x <ℤ right → bottom ≤ℤ pos y → pos y <ℤ top → IsTrue (holds (cut size left bottom right top) x y)
holds_cut size left bottom right top x y column row p q r s =
    four_true _ _ _ _
    (le_true (int_max (pos 0) left) (pos x) (omega (arith, ints, clamps, p)))
    (lt_true (pos x) (int_min (pos size.w) right) (omega (arith, ints, clamps, q, column)))
    (le_true (int_max (pos 0) bottom) (pos y) (omega (arith, ints, clamps, r)))
    (lt_true (pos y) (int_min (pos size.h) top) (omega (arith, ints, clamps, s, row)))

corner_in_range : (v : VertexOut) → IsInWindow v → IsCornerInRange v
corner_in_range v h = record {
  x_from = h.x_from;
  x_to = h.x_to;
  y_from = h.y_from;
  y_to = h.y_to;
  z_from = omega (arith, ints, h.z_from);
  z_to = omega (arith, ints, h.z_to);
  q_from = h.q_from;
  q_to = h.q_to;
}

-- ---- one axis of a line
two_true : (a b : Bool) → IsTrue (a && b) → IsTrue a × IsTrue b
two_true true true h = (refl, refl)
two_true true false h = cc
two_true false b h = cc

abbrev IsNear : ℤ → ℤ → ℕ → ℕ → Type 0
IsNear start end width k = (first_near start end width ≤ℤ pos k) × (pos k <ℤ end_near start end width)

near_between : (start end place : ℤ) → (int_min start end ≤ℤ place) → (place ≤ℤ int_max start end)
    → (floor_div (int_min start end) 16 ≤ℤ floor_div place 16) × (floor_div place 16 ≤ℤ floor_div (int_max start end) 16)
near_between start end place from to = (floor_div-≤ _ _ 16 (lit< tt) from, floor_div-≤ _ _ 16 (lit< tt) to)

passed_between : (start end at : ℤ) → Passed start end at → (int_min start end ≤ℤ at) × (at ≤ℤ int_max start end)
passed_between start end at (inl h) = (omega (arith, ints, clamps, h.1), omega (arith, ints, clamps, h.2))
passed_between start end at (inr h) = (omega (arith, ints, clamps, h.2), omega (arith, ints, clamps, h.1))

pixel_of_center : (k : ℕ) → floor_div (center (pos k)) 16 ≡ pos k
pixel_of_center k =
    let from : pos k ≤ℤ floor_div (center (pos k)) 16 = ≤-floor_div (pos k) (center (pos k)) 16 (lit< tt) (omega (arith, ints)) in
    let to : floor_div (center (pos k)) 16 <ℤ (pos k +ℤ pos 1) = floor_div-< (center (pos k)) (pos k +ℤ pos 1) 16 (lit< tt) (omega (arith, ints)) in
    omega (arith, ints, from, to)

along_near : (start end : ℤ) (width k : ℕ) → Passed start end (center (pos k)) → IsNear start end width k
along_near start end width k h =
    let sides = passed_between start end (center (pos k)) h in
    let near = near_between start end (center (pos k)) sides.0 sides.1 in
    let here = pixel_of_center k in
    (omega (arith, ints, near.0, here), omega (arith, ints, near.1, here))

across_near : (start end place : ℤ) (width k : ℕ) → 1 ≤ width → (int_min start end ≤ℤ place) → (place ≤ℤ int_max start end)
    → IsTrue (is_among (first_of_run place width) width (pos k)) → IsNear start end width k
across_near start end place width k some from to h =
    let near = near_between start end place from to in
    let both = two_true (int_le (first_of_run place width) (pos k)) (int_lt (pos k) (first_of_run place width +ℤ pos width)) h in
    (omega (arith, ints, near.0, both.0, both.1, some), omega (arith, ints, near.1, both.0, both.1, some))

run_near : (width : ℕ) (start minor_start end minor_end : ℤ) (along across : ℕ) → 1 ≤ width
    → IsTrue (covers_run width start minor_start end minor_end (pos along) (pos across))
    → IsNear start end width along × IsNear minor_start minor_end width across
unfolding covers_run
run_near width start minor_start end minor_end along across some h =
    let both = two_true (is_passed start end (center (pos along))) _ h in
    let passed = Passed-from start end (center (pos along)) both.0 in
    let sides = minor_place-between start minor_start end minor_end (center (pos along)) passed in (
      along_near start end width along passed,
      across_near minor_start minor_end (minor_place start minor_start end minor_end (center (pos along))) width across some sides.0 sides.1 both.1,
    )

-- ---- lines
by_axis : (a b : VertexOut) (width x y : ℕ) (m : Bool) → is_x_major a b ≡ m → 1 ≤ width → IsTrue (line_covers a b width (pos x) (pos y))
    → IsNear a.x b.x width x × IsNear a.y b.y width y
unfolding line_covers
by_axis a b width x y true e some h = run_near width a.x a.y b.x b.y x y some (rw e at h)
by_axis a b width x y false e some h = let near = run_near width a.y a.x b.y b.x y x some (rw e at h) in (near.1, near.0)

line_near : (a b : VertexOut) (width x y : ℕ) → 1 ≤ width → IsTrue (line_covers a b width (pos x) (pos y))
    → IsNear a.x b.x width x × IsNear a.y b.y width y
line_near a b width x y some h = by_axis a b width x y (is_x_major a b) refl some h

line_valid_in : (size : Size) (width : ℕ) (a b : VertexOut) → 1 ≤ width → width ≤ 16 → IsInWindow a → IsInWindow b
    → is_empty (line_bounds size width a b) ≡ false
    → IsValid (record { kind = Line; verts = a ∷ b ∷ b ∷ []; width = width; bounds = line_bounds size width a b }) size
unfolding covers line_bounds
line_valid_in size width a b from to first second some = record {
  in_range = record {
    first = corner_in_range a first;
    second = corner_in_range b second;
    third = corner_in_range b second;
    width = (from, to);
  };
  bounds = cut_box size (first_near a.x b.x width) (first_near a.y b.y width) (end_near a.x b.x width) (end_near a.y b.y width) some;
  holds_covered = λ x y column row covered.
      let near = line_near a b width x y from covered in
      holds_cut size _ _ _ _ x y column row near.0.0 near.0.1 near.1.0 near.1.1;
}

pub line_valid : (size : Size) (width : ℕ) (a b : VertexOut) (box : PixelBox) → box ≡ line_bounds size width a b → is_empty box ≡ false
    → 1 ≤ width → width ≤ 16 → IsInWindow a → IsInWindow b
    → IsValid (record { kind = Line; verts = a ∷ b ∷ b ∷ []; width = width; bounds = box }) size
line_valid size width a b box bounds some from to first second =
    let some_of : is_empty (line_bounds size width a b) ≡ false = ap is_empty (sym bounds) ∙ some in
    rw bounds (line_valid_in size width a b from to first second some_of)

pub no_line-same_place : (size : Size) (width : ℕ) (a b : VertexOut) → are_same_place a b ≡ true → ◌≡◌ {A = Option Primitive} None (line_between size width a b)
unfolding line_between
no_line-same_place size width a b same = rw same

pub no_line-empty : (size : Size) (width : ℕ) (a b : VertexOut) (box : PixelBox) → are_same_place a b ≡ false
    → box ≡ line_bounds size width a b → is_empty box ≡ true → ◌≡◌ {A = Option Primitive} None (line_between size width a b)
unfolding line_between
no_line-empty size width a b box apart bounds empty =
    let empty_of : is_empty (line_bounds size width a b) ≡ true = ap is_empty (sym bounds) ∙ empty in
    rw (apart, empty_of)

pub line_is : (size : Size) (width : ℕ) (a b : VertexOut) (box : PixelBox) → are_same_place a b ≡ false
    → box ≡ line_bounds size width a b → is_empty box ≡ false
    → ◌≡◌ {A = Option Primitive} (Some (record { kind = Line; verts = a ∷ b ∷ b ∷ []; width = width; bounds = box })) (line_between size width a b)
unfolding line_between
line_is size width a b box apart bounds some =
    let some_of : is_empty (line_bounds size width a b) ≡ false = ap is_empty (sym bounds) ∙ some in
    rw (apart, some_of, bounds)

-- ---- points
both_true : (a b : Bool) → IsTrue a → IsTrue b → IsTrue (a && b)
both_true true true p q = refl
both_true true false p q = cc
both_true false b p q = cc

among : (first : ℤ) (count : ℕ) (at : ℤ) → first ≤ℤ at → at <ℤ (first +ℤ pos count) → IsTrue (is_among first count at)
among first count at from to = both_true _ _ (le_true _ _ from) (lt_true _ _ to)

among-from : (first : ℤ) (count : ℕ) (at : ℤ) → IsTrue (is_among first count at) → (first ≤ℤ at) × (at <ℤ (first +ℤ pos count))
among-from first count at h =
    let both = two_true (int_le first at) (int_lt at (first +ℤ pos count)) h in
    (omega (arith, ints, both.0), omega (arith, ints, both.1))

holds_square : (size : Size) (width : ℕ) (v : VertexOut) (x y : ℕ) → x < size.w → y < size.h → IsTrue (point_covers v width (pos x) (pos y))
    → IsTrue (holds (point_bounds size width v) x y)
unfolding point_bounds point_covers
holds_square size width v x y column row h =
    let both = two_true (is_among (first_about v.x width) width (pos x)) (is_among (first_about v.y width) width (pos y)) h in
    let columns = among-from (first_about v.x width) width (pos x) both.0 in
    let rows = among-from (first_about v.y width) width (pos y) both.1 in
    holds_cut size _ _ _ _ x y column row columns.0 columns.1 rows.0 rows.1

square_holds : (size : Size) (width : ℕ) (v : VertexOut) (x y : ℕ) → IsTrue (holds (point_bounds size width v) x y)
    → (x < size.w) × (y < size.h) × IsTrue (point_covers v width (pos x) (pos y))
unfolding point_bounds point_covers
square_holds size width v x y h =
    let area = point_bounds size width v in
    let parts = all_true (int_le area.x0 (pos x)) (int_lt (pos x) area.x1) (int_le area.y0 (pos y)) (int_lt (pos y) area.y1) h in
    let left : int_max (pos 0) (first_about v.x width) ≤ℤ pos x = omega (arith, ints, parts.0) in
    let right : pos x <ℤ int_min (pos size.w) (first_about v.x width +ℤ pos width) = omega (arith, ints, parts.1) in
    let bottom : int_max (pos 0) (first_about v.y width) ≤ℤ pos y = omega (arith, ints, parts.2) in
    let top : pos y <ℤ int_min (pos size.h) (first_about v.y width +ℤ pos width) = omega (arith, ints, parts.3) in (
      omega (arith, ints, clamps, right),
      omega (arith, ints, clamps, top),
      both_true _ _
          (among (first_about v.x width) width (pos x) (omega (arith, ints, clamps, left)) (omega (arith, ints, clamps, right)))
          (among (first_about v.y width) width (pos y) (omega (arith, ints, clamps, bottom)) (omega (arith, ints, clamps, top))),
    )

pub point_bounds-exact : (size : Size) (width : ℕ) (v : VertexOut) (box : PixelBox) → box ≡ point_bounds size width v
    → HoldsCovered box size (record { kind = Point; verts = v ∷ v ∷ v ∷ []; width = width; bounds = box })
unfolding covers
point_bounds-exact size width v box bounds x y =
    rw bounds (square_holds size width v x y, λ h. holds_square size width v x y h.0 h.1 h.2)

point_valid_in : (size : Size) (width : ℕ) (v : VertexOut) → 1 ≤ width → width ≤ 64 → IsInWindow v
    → is_empty (point_bounds size width v) ≡ false
    → IsValid (record { kind = Point; verts = v ∷ v ∷ v ∷ []; width = width; bounds = point_bounds size width v }) size
unfolding covers point_bounds
point_valid_in size width v from to place some = record {
  in_range = record {
    first = corner_in_range v place;
    second = corner_in_range v place;
    third = corner_in_range v place;
    width = (from, to);
  };
  bounds = cut_box size (first_about v.x width) (first_about v.y width) (first_about v.x width +ℤ pos width) (first_about v.y width +ℤ pos width) some;
  holds_covered = λ x y column row covered. holds_square size width v x y column row covered;
}

pub point_valid : (size : Size) (width : ℕ) (v : VertexOut) (box : PixelBox) → box ≡ point_bounds size width v → is_empty box ≡ false
    → 1 ≤ width → width ≤ 64 → IsInWindow v
    → IsValid (record { kind = Point; verts = v ∷ v ∷ v ∷ []; width = width; bounds = box }) size
point_valid size width v box bounds some from to place =
    let some_of : is_empty (point_bounds size width v) ≡ false = ap is_empty (sym bounds) ∙ some in
    rw bounds (point_valid_in size width v from to place some_of)

pub no_point : (size : Size) (width : ℕ) (v : VertexOut) (box : PixelBox) → box ≡ point_bounds size width v → is_empty box ≡ true
    → ◌≡◌ {A = Option Primitive} None (point_at size width v)
unfolding point_at
no_point size width v box bounds empty =
    let empty_of : is_empty (point_bounds size width v) ≡ true = ap is_empty (sym bounds) ∙ empty in
    rw empty_of

pub point_is : (size : Size) (width : ℕ) (v : VertexOut) (box : PixelBox) → box ≡ point_bounds size width v → is_empty box ≡ false
    → ◌≡◌ {A = Option Primitive} (Some (record { kind = Point; verts = v ∷ v ∷ v ∷ []; width = width; bounds = box })) (point_at size width v)
unfolding point_at
point_is size width v box bounds some =
    let some_of : is_empty (point_bounds size width v) ≡ false = ap is_empty (sym bounds) ∙ some in
    rw (some_of, bounds)
