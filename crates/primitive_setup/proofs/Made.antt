-- The primitive that the code makes is the one of the definition.
use Rattle.std.proofs.Common.{◌≡◌, ℕ, refl, ap, sym, ◌∙◌}
use Rattle.std.specs.Prelude.{ℤ, pos, Bool, true, false, List, [], ◌∷◌, Option, Some}
use Rattle.std.specs.Ordering.{int_eq}
use Rattle.std.proofs.lemmas.Bool.Decides.{Decides-int_eq}
use Rattle.fx_arith.specs.declared.fx.Fx.{Fx}
use Rattle.gl_records.specs.declared.clip_vertex.ClipVertex.{ClipVertex}
use Rattle.gl_records.specs.declared.pixel_box.PixelBox.{PixelBox}
use Rattle.gl_records.specs.declared.prim.Primitive.{Primitive}
use Rattle.gl_records.specs.declared.prim.PrimKind.TheVariants.{Triangle}
use Rattle.gl_records.specs.declared.prim.VertexOut.{VertexOut}
use Rattle.gl_records.specs.declared.setup_rules.SetupRules.{SetupRules}
use Rattle.gl_records.specs.declared.size.Size.{Size}
use Rattle.primitive_setup.specs.declared.window.Place.{Place}
use Rattle.primitive_setup.specs.Bounds.{bounds_of, is_empty}
use Rattle.primitive_setup.specs.Offset.{with_offset, offset_of}
use Rattle.primitive_setup.specs.Setup.{area_of, triangle_in, visible_triangle, offset_triangle, triangle_of, counterclockwise_triangle}
use Rattle.primitive_setup.specs.Facing.{faces_front, is_culled, takes_back_colors}
use Rattle.primitive_setup.specs.Window.{corner_of, place_of}

triangle_in_is : (box : PixelBox) (offset : ℤ) (a b c : VertexOut) → is_empty box ≡ false
    → Some (record { kind = Triangle; verts = with_offset offset a ∷ with_offset offset b ∷ with_offset offset c ∷ []; width = 0; bounds = box }) ≡ triangle_in box offset a b c
triangle_in_is box offset a b c some = rw some

pub offset_triangle_is : (rule : Option (List Fx)) (size : Size) (area : ℕ) (a b c p q r : VertexOut) (box : PixelBox) (offset : ℤ)
    → p ≡ with_offset offset a → q ≡ with_offset offset b → r ≡ with_offset offset c
    → box ≡ bounds_of size a b c → offset ≡ offset_of rule area a b c → is_empty box ≡ false
    → Some (record { kind = Triangle; verts = p ∷ q ∷ r ∷ []; width = 0; bounds = box }) ≡ offset_triangle rule size area a b c
unfolding offset_triangle
offset_triangle_is rule size area a b c p q r box offset first second third bounds is_offset some =
    rw (first, second, third) (triangle_in_is box offset a b c some)
    ∙ ap (λ n. triangle_in n offset a b c) bounds
    ∙ ap (λ n. triangle_in (bounds_of size a b c) n a b c) is_offset

visible_triangle_is : (rules : SetupRules) (size : Size) (area : ℤ) (u v w : ClipVertex) (front behind : Bool) (a b c : VertexOut) (r : Option Primitive)
    → int_eq area (pos 0) ≡ false → front ≡ faces_front rules.front_ccw area → is_culled rules.cull front ≡ false
    → behind ≡ takes_back_colors rules.two_side front
    → a ≡ corner_of rules behind u → b ≡ corner_of rules behind v → c ≡ corner_of rules behind w
    → r ≡ counterclockwise_triangle rules.offset size area a b c → r ≡ visible_triangle rules size area u v w
unfolding visible_triangle
visible_triangle_is rules size area u v w front behind a b c r some is_front kept is_behind first second third is =
    let seen : is_culled rules.cull (faces_front rules.front_ccw area) ≡ false = ap (is_culled rules.cull) (sym is_front) ∙ kept in
    let colors : behind ≡ takes_back_colors rules.two_side (faces_front rules.front_ccw area) = is_behind ∙ ap (takes_back_colors rules.two_side) is_front in
    rw (some, seen) (is ∙ rw (first, second, third, colors))

pub triangle_is : (rules : SetupRules) (size : Size) (u v w : ClipVertex) (p q s : Place) (area : ℤ) (front behind : Bool) (a b c : VertexOut)
    (r : Option Primitive)
    → p ≡ place_of rules u → q ≡ place_of rules v → s ≡ place_of rules w → area ≡ area_of p q s
    → int_eq area (pos 0) ≡ false → front ≡ faces_front rules.front_ccw area → is_culled rules.cull front ≡ false
    → behind ≡ takes_back_colors rules.two_side front
    → a ≡ corner_of rules behind u → b ≡ corner_of rules behind v → c ≡ corner_of rules behind w
    → r ≡ counterclockwise_triangle rules.offset size area a b c → r ≡ triangle_of rules size u v w
unfolding triangle_of
triangle_is rules size u v w p q s area front behind a b c r is_p is_q is_s is_area some is_front kept is_behind first second third is =
    let whole : area ≡ area_of (place_of rules u) (place_of rules v) (place_of rules w) =
    is_area ∙ ap (λ n. area_of n q s) is_p ∙ ap (λ n. area_of (place_of rules u) n s) is_q ∙ ap (λ n. area_of (place_of rules u) (place_of rules v) n) is_s in
    visible_triangle_is rules size area u v w front behind a b c r some is_front kept is_behind first second third is ∙ ap (λ n. visible_triangle rules size n u v w) whole

pub int_eq-zero : (a : ℤ) → (a ≡ pos 0 → ⊥) → int_eq a (pos 0) ≡ false
int_eq-zero a apart = by (int_eq a (pos 0)) refl
  where
    by : (t : Bool) → int_eq a (pos 0) ≡ t → int_eq a (pos 0) ≡ false
    by true e = absurd (apart ((Decides-int_eq a (pos 0)).0 e))
    by false e = e
