-- The bounds hold exactly the pixels of the surface whose centres lie in the box of the corners.
use Rattle.std.proofs.Common.{◌≡◌, ℕ, ◌<◌, ◌^◌, ap, ◌∙◌, refl, lit<, sym, arith}
use Rattle.std.specs.Prelude.{ℤ, pos, negsuc, ◌+ℤ◌, ◌≤ℤ◌, ◌<ℤ◌, Bool, true, false, ◌&&◌, ◌↔◌, IsTrue, int_le, int_lt}
use Rattle.std.proofs.lemmas.Int.{ints, clamps}
use Rattle.fx_arith.specs.Number.{floor_div}
use Rattle.fx_arith.proofs.Floors.{floor_div-<, floor_div-multiple_within, floor_div-next_multiple_above, ≤-floor_div}
use Rattle.gl_records.specs.declared.pixel_box.PixelBox.{PixelBox}
use Rattle.gl_records.specs.declared.prim.VertexOut.{VertexOut}
use Rattle.gl_records.specs.declared.size.Size.{Size}
use Rattle.gl_records.specs.Center.{center}
use Rattle.gl_records.specs.PixelBox.{holds}
use Rattle.primitive_setup.specs.Bounds.{bounds_of, end_at, first_from, greatest, least, HoldsCenters, IsCenterWithin}
use Rattle.primitive_setup.specs.Offset.{with_offset}
use lib.Signed.{mag}
use mir.Syntax.{w32}
use mir.Val.{to_z, of_z}
use Rattle.primitive_setup.proofs.Words.{place_is, word_is}

-- ---- one axis
first_from_at_most : (place : ℤ) (x : ℕ) → place ≤ℤ center (pos x) → first_from place ≤ℤ pos x
first_from_at_most place x h =
    let below : floor_div (place +ℤ pos 7) 16 <ℤ (pos x +ℤ pos 1) = floor_div-< (place +ℤ pos 7) (pos x +ℤ pos 1) 16 (lit< tt) (omega (arith, ints)) in
    omega (arith, ints, clamps, below)

at_most_center : (place : ℤ) (x : ℕ) → first_from place ≤ℤ pos x → place ≤ℤ center (pos x)
at_most_center place x h =
    omega (arith, ints, clamps, h, floor_div-next_multiple_above (place +ℤ pos 7) 16 (lit< tt))

below_end_at : (place : ℤ) (side x : ℕ) → x < side → center (pos x) ≤ℤ place → pos x <ℤ end_at place (pos side)
below_end_at place side x inside h =
    let reached : (pos x +ℤ pos 1) ≤ℤ floor_div (place +ℤ pos 8) 16 = ≤-floor_div (pos x +ℤ pos 1) (place +ℤ pos 8) 16 (lit< tt) (omega (arith, ints)) in
    omega (arith, ints, clamps, reached)

center_at_most : (place : ℤ) (side x : ℕ) → pos x <ℤ end_at place (pos side) → (x < side) × (center (pos x) ≤ℤ place)
center_at_most place side x h =
    let within = floor_div-multiple_within (place +ℤ pos 8) 16 (lit< tt) in
    (omega (arith, ints, clamps, h), omega (arith, ints, clamps, h, within))

-- ---- both axes
pub four_true : (a b c d : Bool) → IsTrue a → IsTrue b → IsTrue c → IsTrue d → IsTrue (a && b && c && d)
four_true true true true true p q r s = refl
four_true true true true false p q r s = cc
four_true true true false d p q r s = cc
four_true true false c d p q r s = cc
four_true false b c d p q r s = cc

pub all_true : (a b c d : Bool) → IsTrue (a && b && c && d) → IsTrue a × IsTrue b × IsTrue c × IsTrue d
all_true true true true true h = (refl, refl, refl, refl)
all_true true true true false h = cc
all_true true true false d h = cc
all_true true false c d h = cc
all_true false b c d h = cc

pub le_true : (a b : ℤ) → a ≤ℤ b → IsTrue (int_le a b)
le_true a b h = let e : true ≡ int_le a b = omega (arith, ints) in sym e

pub lt_true : (a b : ℤ) → a <ℤ b → IsTrue (int_lt a b)
lt_true a b h = let e : true ≡ int_lt a b = omega (arith, ints) in sym e

-- the bounds hold each pixel of the surface whose centre lies in the box
pub holds-bounds_of : (size : Size) (a b c : VertexOut) (x y : ℕ) → x < size.w → y < size.h → IsCenterWithin a b c (pos x) (pos y)
    → IsTrue (holds (bounds_of size a b c) x y)
unfolding bounds_of
holds-bounds_of size a b c x y column row within =
    four_true _ _ _ _
    (le_true _ _ (first_from_at_most _ x within.left))
    (lt_true _ _ (below_end_at _ size.w x column within.right))
    (le_true _ _ (first_from_at_most _ y within.bottom))
    (lt_true _ _ (below_end_at _ size.h y row within.top))

-- the centre of each pixel that the bounds hold lies in the box
pub within-bounds_of : (size : Size) (a b c : VertexOut) (x y : ℕ) → IsTrue (holds (bounds_of size a b c) x y)
    → (x < size.w) × (y < size.h) × IsCenterWithin a b c (pos x) (pos y)
unfolding bounds_of
within-bounds_of size a b c x y h =
    let parts = all_true (int_le (bounds_of size a b c).x0 (pos x)) (int_lt (pos x) (bounds_of size a b c).x1)
    (int_le (bounds_of size a b c).y0 (pos y)) (int_lt (pos y) (bounds_of size a b c).y1) h in
    let column = center_at_most (greatest a.x b.x c.x) size.w x (omega (arith, ints, parts.1)) in
    let row = center_at_most (greatest a.y b.y c.y) size.h y (omega (arith, ints, parts.3)) in (
      column.0,
      row.0,
      record {
        left = at_most_center (least a.x b.x c.x) x (omega (arith, ints, parts.0));
        right = column.1;
        bottom = at_most_center (least a.y b.y c.y) y (omega (arith, ints, parts.2));
        top = row.1;
      },
    )

pub holds-exact : (size : Size) (a b c : VertexOut) (area : PixelBox) → area ≡ bounds_of size a b c → (x y : ℕ)
    → IsTrue (holds area x y) ↔ ((x < size.w) × (y < size.h) × IsCenterWithin a b c (pos x) (pos y))
holds-exact size a b c area same x y =
    rw same
    (within-bounds_of size a b c x y, λ h. holds-bounds_of size a b c x y h.0 h.1 h.2)

-- ---- what the code computes of the corners' words
pub first_from_least : (r l a b c : ℤ) → mag r < 2 ^ 31 → mag l < 2 ^ 31
    → negsuc 65535 ≤ℤ a → a ≤ℤ pos 98304 → negsuc 65535 ≤ℤ b → b ≤ℤ pos 98304 → negsuc 65535 ≤ℤ c → c ≤ℤ pos 98304
    → r ≡ first_from (to_z w32 (of_z w32 l)) → l ≡ least (to_z w32 (of_z w32 a)) (to_z w32 (of_z w32 b)) (to_z w32 (of_z w32 c))
    → to_z w32 (of_z w32 r) ≡ first_from (least a b c)
first_from_least r l a b c r_fits l_fits a_from a_to b_from b_to c_from c_to first is_least =
    word_is r r_fits ∙ first ∙ ap first_from (word_is l l_fits ∙ is_least
    ∙ ap (λ n. least n (to_z w32 (of_z w32 b)) (to_z w32 (of_z w32 c))) (place_is a a_from a_to)
    ∙ ap (λ n. least a n (to_z w32 (of_z w32 c))) (place_is b b_from b_to)
    ∙ ap (λ n. least a b n) (place_is c c_from c_to))

pub end_at_greatest : (r l a b c : ℤ) (side : ℕ) → mag r < 2 ^ 31 → mag l < 2 ^ 31
    → negsuc 65535 ≤ℤ a → a ≤ℤ pos 98304 → negsuc 65535 ≤ℤ b → b ≤ℤ pos 98304 → negsuc 65535 ≤ℤ c → c ≤ℤ pos 98304
    → r ≡ end_at (to_z w32 (of_z w32 l)) (pos side) → l ≡ greatest (to_z w32 (of_z w32 a)) (to_z w32 (of_z w32 b)) (to_z w32 (of_z w32 c))
    → to_z w32 (of_z w32 r) ≡ end_at (greatest a b c) (pos side)
end_at_greatest r l a b c side r_fits l_fits a_from a_to b_from b_to c_from c_to end is_greatest =
    word_is r r_fits ∙ end ∙ ap (λ n. end_at n (pos side)) (word_is l l_fits ∙ is_greatest
    ∙ ap (λ n. greatest n (to_z w32 (of_z w32 b)) (to_z w32 (of_z w32 c))) (place_is a a_from a_to)
    ∙ ap (λ n. greatest a n (to_z w32 (of_z w32 c))) (place_is b b_from b_to)
    ∙ ap (λ n. greatest a b n) (place_is c c_from c_to))

pub box_same : (size : Size) (a b c : VertexOut) (x0 y0 x1 y1 : ℤ)
    → x0 ≡ first_from (least a.x b.x c.x) → y0 ≡ first_from (least a.y b.y c.y)
    → x1 ≡ end_at (greatest a.x b.x c.x) (pos size.w) → y1 ≡ end_at (greatest a.y b.y c.y) (pos size.h)
    → ◌≡◌ {A = PixelBox} (record { x0 = x0; y0 = y0; x1 = x1; y1 = y1 }) (bounds_of size a b c)
unfolding bounds_of
box_same size a b c x0 y0 x1 y1 p q r s = cc

-- a centre lies in the box wherever the corners' depths are moved to
within_moved : (z : ℤ) (a b c : VertexOut) (x y : ℤ) → IsCenterWithin a b c x y → IsCenterWithin (with_offset z a) (with_offset z b) (with_offset z c) x y
within_moved z a b c x y within = record { left = within.left; right = within.right; bottom = within.bottom; top = within.top }

within_before : (z : ℤ) (a b c : VertexOut) (x y : ℤ) → IsCenterWithin (with_offset z a) (with_offset z b) (with_offset z c) x y → IsCenterWithin a b c x y
within_before z a b c x y within = record { left = within.left; right = within.right; bottom = within.bottom; top = within.top }

pub HoldsCenters-moved : (z : ℤ) (area : PixelBox) (size : Size) (a b c : VertexOut) → HoldsCenters area size a b c
    → HoldsCenters area size (with_offset z a) (with_offset z b) (with_offset z c)
HoldsCenters-moved z area size a b c exact x y = (
  λ held. let found = (exact x y).0 held in (found.0, found.1, within_moved z a b c (pos x) (pos y) found.2),
  λ found. (exact x y).1 (found.0, found.1, within_before z a b c (pos x) (pos y) found.2),
)
