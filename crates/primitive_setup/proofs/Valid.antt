-- What set-up gives is valid.
use Rattle.std.proofs.Common.{◌≡◌, ap, sym, ◌∙◌, refl, arith}
use Rattle.std.specs.Prelude.{ℤ, pos, negsuc, ◌-ℤ◌, ◌≤ℤ◌, ◌<ℤ◌, Bool, true, false, ◌&&◌, ◌||◌, [], ◌∷◌, IsTrue, int_le, int_lt}
use Rattle.std.specs.Ordering.{int_eq}
use Rattle.std.proofs.lemmas.Int.{ints, clamps}
use Rattle.std.proofs.lemmas.Bool.Decides.{Decides-int_eq}
use Rattle.gl_records.specs.declared.pixel_box.PixelBox.{PixelBox}
use Rattle.gl_records.specs.declared.prim.PrimKind.TheVariants.{Triangle}
use Rattle.gl_records.specs.declared.prim.VertexOut.{VertexOut}
use Rattle.gl_records.specs.declared.size.Size.{Size}
use Rattle.gl_records.specs.Center.{center}
use Rattle.gl_records.specs.Coverage.{covers, doubled_area, edge, inside_edge, owns}
use Rattle.gl_records.specs.Valid.{IsBoxOf, IsCornerInRange, IsValid}
use Rattle.primitive_setup.specs.Bounds.{bounds_of, is_empty, IsCenterWithin}
use Rattle.primitive_setup.specs.Offset.{with_offset}
use Rattle.primitive_setup.specs.Window.{IsInWindow}
use Rattle.primitive_setup.proofs.Boxes.{holds-bounds_of}
use Rattle.primitive_setup.proofs.Edges.{AreEdges, between_corners, edge_is}

-- ---- a covered centre has no edge on its right
inside_cases : (e : ℤ) (above on own : Bool) → int_lt (pos 0) e ≡ above → int_eq e (pos 0) ≡ on → IsTrue (above || (on && own)) → pos 0 ≤ℤ e
inside_cases e true on own p q h = omega (arith, ints)
inside_cases e false true own p q h = let zero : e ≡ pos 0 = (Decides-int_eq e (pos 0)).0 q in omega (arith, ints, zero)
inside_cases e false false own p q h = cc

edge_at_least : (a b : VertexOut) (x y : ℤ) → IsTrue (inside_edge a b x y) → pos 0 ≤ℤ edge a b (center x) (center y)
edge_at_least a b x y h =
    let e = edge a b (center x) (center y) in
    inside_cases e (int_lt (pos 0) e) (int_eq e (pos 0)) (owns (b.x -ℤ a.x) (b.y -ℤ a.y)) refl refl h

edges_at : (a b c : VertexOut) (x y : ℤ) → AreEdges a.x a.y b.x b.y c.x c.y x y (edge b c x y) (edge c a x y) (edge a b x y)
unfolding doubled_area
edges_at a b c x y = record {
  first = edge_is b.x b.y c.x c.y x y;
  second = edge_is c.x c.y a.x a.y x y;
  third = edge_is a.x a.y b.x b.y x y;
}

-- so it lies in the box of the corners
center_within : (a b c : VertexOut) (x y : ℤ) → pos 0 <ℤ doubled_area a.x a.y b.x b.y c.x c.y
    → pos 0 ≤ℤ edge b c (center x) (center y) → pos 0 ≤ℤ edge c a (center x) (center y) → pos 0 ≤ℤ edge a b (center x) (center y)
    → IsCenterWithin a b c x y
center_within a b c x y area p q r =
    let sides = between_corners a.x a.y b.x b.y c.x c.y (center x) (center y)
    (edge b c (center x) (center y)) (edge c a (center x) (center y)) (edge a b (center x) (center y))
    (edges_at a b c (center x) (center y)) area p q r in
    record { left = sides.0.0; right = sides.0.1; bottom = sides.1.0; top = sides.1.1 }

three_true : (a b c : Bool) → IsTrue (a && b && c) → IsTrue a × IsTrue b × IsTrue c
three_true true true true h = (refl, refl, refl)
three_true true true false h = cc
three_true true false c h = cc
three_true false b c h = cc

-- ---- the parts of validity
corner_in_range : (offset : ℤ) (v : VertexOut) → negsuc 33554431 ≤ℤ offset → offset ≤ℤ pos 33554432 → IsInWindow v → IsCornerInRange (with_offset offset v)
corner_in_range offset v from to h = record {
  x_from = h.x_from;
  x_to = h.x_to;
  y_from = h.y_from;
  y_to = h.y_to;
  z_from = omega (arith, ints, h.z_from, from);
  z_to = omega (arith, ints, h.z_to, to);
  q_from = h.q_from;
  q_to = h.q_to;
}

pub either_false : (a b : Bool) → a || b ≡ false → (a ≡ false) × (b ≡ false)
either_false true b h = cc
either_false false b h = (refl, h)

box_of : (size : Size) (a b c : VertexOut) → is_empty (bounds_of size a b c) ≡ false → IsBoxOf size (bounds_of size a b c)
unfolding bounds_of
box_of size a b c h =
    let sides = either_false (int_le (bounds_of size a b c).x1 (bounds_of size a b c).x0) (int_le (bounds_of size a b c).y1 (bounds_of size a b c).y0) h in
    record {
      left = omega (arith, ints, clamps);
      bottom = omega (arith, ints, clamps);
      right = omega (arith, ints, clamps);
      top = omega (arith, ints, clamps);
      columns = omega (arith, ints, sides.0);
      rows = omega (arith, ints, sides.1);
    }

pub triangle_valid : (size : Size) (offset : ℤ) (a b c : VertexOut) → negsuc 33554431 ≤ℤ offset → offset ≤ℤ pos 33554432
    → IsInWindow a → IsInWindow b → IsInWindow c → pos 0 <ℤ doubled_area a.x a.y b.x b.y c.x c.y → is_empty (bounds_of size a b c) ≡ false
    → IsValid (record { kind = Triangle; verts = with_offset offset a ∷ with_offset offset b ∷ with_offset offset c ∷ []; width = 0; bounds = bounds_of size a b c }) size
unfolding covers doubled_area
triangle_valid size offset a b c from to first second third area some = record {
  in_range = record {
    first = corner_in_range offset a from to first;
    second = corner_in_range offset b from to second;
    third = corner_in_range offset c from to third;
    width = tt;
  };
  bounds = box_of size a b c some;
  holds_covered = λ x y column row covered.
      let edges = three_true _ _ _ covered in
      holds-bounds_of size a b c x y column row
      (center_within a b c (pos x) (pos y) area
      (edge_at_least (with_offset offset b) (with_offset offset c) (pos x) (pos y) edges.0)
      (edge_at_least (with_offset offset c) (with_offset offset a) (pos x) (pos y) edges.1)
      (edge_at_least (with_offset offset a) (with_offset offset b) (pos x) (pos y) edges.2));
}

-- the same of corners and a box that are equal to those
pub made_valid : (size : Size) (offset : ℤ) (a b c p q r : VertexOut) (box : PixelBox) → p ≡ with_offset offset a → q ≡ with_offset offset b → r ≡ with_offset offset c
    → box ≡ bounds_of size a b c → is_empty box ≡ false → negsuc 33554431 ≤ℤ offset → offset ≤ℤ pos 33554432
    → IsInWindow a → IsInWindow b → IsInWindow c → pos 0 <ℤ doubled_area a.x a.y b.x b.y c.x c.y
    → IsValid (record { kind = Triangle; verts = p ∷ q ∷ r ∷ []; width = 0; bounds = box }) size
made_valid size offset a b c p q r box first second third bounds some from to in_a in_b in_c area =
    let some_of : is_empty (bounds_of size a b c) ≡ false = ap is_empty (sym bounds) ∙ some in
    rw (first, second, third, bounds) (triangle_valid size offset a b c from to in_a in_b in_c area some_of)
