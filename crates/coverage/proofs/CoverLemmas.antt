-- The fill rule: what a covered centre says of the three edges.
use Rattle.std.specs.Prelude.{ℤ, pos, ◌+ℤ◌, ◌-ℤ◌, ◌<ℤ◌, ◌≤ℤ◌, ◌≡◌, ◌⊎◌, Bool, true, false, ◌&&◌, ◌||◌, IsTrue, int_lt}
use Rattle.std.specs.Ordering.{int_eq}
use Rattle.std.proofs.Common.{refl, arith, inl, inr}
use Rattle.std.proofs.lemmas.Int.{ints, by_lt_z}
use Rattle.std.proofs.lemmas.Bool.Decides.{Decides-int_eq}
use Rattle.gl_records.specs.declared.prim.Primitive.{Primitive}
use Rattle.gl_records.specs.declared.prim.PrimKind.TheVariants.{Triangle}
use Rattle.gl_records.specs.declared.prim.VertexOut.{VertexOut}
use Rattle.gl_records.specs.Center.{center}
use Rattle.gl_records.specs.Coverage.{covers, edge, inside, owns, inside_edge}

abbrev pub Owned : ℤ → ℤ → Type 0
Owned dx dy = (pos 0 <ℤ dy) ⊎ ((dy ≡ pos 0) × (pos 0 <ℤ dx))

-- a centre of edge value e is inside of an edge in this direction
pub record IsInside (e dx dy : ℤ) : Type 0 where
  pub at_least : pos 0 ≤ℤ e
  pub owned : e ≡ pos 0 → Owned dx dy

owned_cases : (dx dy : ℤ) (above flat right : Bool) → int_lt (pos 0) dy ≡ above → int_eq dy (pos 0) ≡ flat → int_lt (pos 0) dx ≡ right
    → IsTrue (above || (flat && right)) → Owned dx dy
owned_cases dx dy true flat right e f g h = inl (omega (arith, ints))
owned_cases dx dy false true true e f g h = inr ((Decides-int_eq dy (pos 0)).0 f, omega (arith, ints))
owned_cases dx dy false true false e f g h = cc
owned_cases dx dy false false right e f g h = cc

pub Owned-from : (dx dy : ℤ) → IsTrue (owns dx dy) → Owned dx dy
Owned-from dx dy h = owned_cases dx dy (int_lt (pos 0) dy) (int_eq dy (pos 0)) (int_lt (pos 0) dx) refl refl refl h

inside_cases : (e dx dy : ℤ) (above on own : Bool) → int_lt (pos 0) e ≡ above → int_eq e (pos 0) ≡ on → owns dx dy ≡ own
    → IsTrue (above || (on && own)) → IsInside e dx dy
inside_cases e dx dy true on own p q r h = record { at_least = omega (arith, ints); owned = λ z. absurd (omega (arith, ints)) }
inside_cases e dx dy false true true p q r h =
    let zero : e ≡ pos 0 = (Decides-int_eq e (pos 0)).0 q in
    record { at_least = omega (arith, ints); owned = λ z. Owned-from dx dy r }
inside_cases e dx dy false true false p q r h = cc
inside_cases e dx dy false false own p q r h = cc

pub IsInside-from : (a b : VertexOut) (x y : ℤ) → IsTrue (inside_edge a b x y)
    → IsInside (edge a b (center x) (center y)) (b.x -ℤ a.x) (b.y -ℤ a.y)
IsInside-from a b x y h =
    let e = edge a b (center x) (center y) in
    inside_cases e (b.x -ℤ a.x) (b.y -ℤ a.y) (int_lt (pos 0) e) (int_eq e (pos 0)) (owns (b.x -ℤ a.x) (b.y -ℤ a.y)) refl refl refl h

-- inside of three edges that go round, the values are not all 0
none_flat : (d e f u v w x y z : ℤ) → IsInside d u x → IsInside e v y → IsInside f w z
    → u +ℤ v +ℤ w ≡ pos 0 → x +ℤ y +ℤ z ≡ pos 0 → (d +ℤ e +ℤ f) ≤ℤ pos 0 → pos 0 <ℤ (d +ℤ e +ℤ f)
none_flat d e f u v w x y z p q r round over small =
    let first : Owned u x = p.owned (omega (arith, ints, p.at_least, q.at_least, r.at_least)) in
    let second : Owned v y = q.owned (omega (arith, ints, p.at_least, q.at_least, r.at_least)) in
    let third : Owned w z = r.owned (omega (arith, ints, p.at_least, q.at_least, r.at_least)) in
    absurd (omega (arith, ints))

pub sum_positive : (d e f u v w x y z : ℤ) → IsInside d u x → IsInside e v y → IsInside f w z
    → u +ℤ v +ℤ w ≡ pos 0 → x +ℤ y +ℤ z ≡ pos 0 → pos 0 <ℤ (d +ℤ e +ℤ f)
sum_positive d e f u v w x y z p q r round over =
    by_lt_z (pos 0) (d +ℤ e +ℤ f) (λ h. h) (λ h. none_flat d e f u v w x y z p q r round over h)

three : (a b c : Bool) → IsTrue (a && b && c) → IsTrue a × IsTrue b × IsTrue c
three true true true h = (refl, refl, refl)
three true true false h = cc
three true false c h = cc
three false b c h = cc

-- the centre is inside of the triangle's three edges
pub record IsCovered (p : Primitive) (x y : ℤ) : Type 0 where
  pub first : IsTrue (inside p 0 x y)
  pub second : IsTrue (inside p 1 x y)
  pub third : IsTrue (inside p 2 x y)

pub IsCovered-from : (p : Primitive) (x y : ℤ) → p.kind ≡ Triangle → IsTrue (covers p x y) → IsCovered p x y
unfolding covers
IsCovered-from p x y e h =
    let all = three (inside p 0 x y) (inside p 1 x y) (inside p 2 x y) (rw e at h) in
    record { first = all.0; second = all.1; third = all.2 }
