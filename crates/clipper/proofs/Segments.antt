-- Segments: what the planes leave has two ends, and both are in front.
use Rattle.std.proofs.Common.{◌≡◌, zero, suc, drop, refl, subst, sym, arith}
use Rattle.std.specs.Prelude.{Bool, true, false, List, [], ◌∷◌, Option, Some, None, IfSome, option_and_then, fold, if◌then◌else◌}
use Rattle.std.specs.List.{All}
use Rattle.gl_records.specs.declared.clip_vertex.ClipVertex.{ClipVertex}
use Rattle.gl_records.specs.ClipVertex.{vertex}
use Rattle.clipper.specs.declared.planes.Plane.{Plane}
use Rattle.clipper.specs.declared.planes.Plane.TheVariants.{LeastW}
use Rattle.clipper.specs.Crossing.{crossing}
use Rattle.clipper.specs.Planes.{is_inside, planes, IsInFront}
use Rattle.clipper.specs.Segment.{shortened, clipped_segment}
use Rattle.clipper.proofs.Fronts.{inside-least_w, crossing-least_w, crossing-in_front}

-- two ends in front
abbrev pub AreEnds : List ClipVertex → Type 0
AreEnds ends = (a : ClipVertex) × (b : ClipVertex) × (ends ≡ a ∷ b ∷ []) × IsInFront a × IsInFront b

-- what a plane leaves of a segment, where it keeps ends in front and makes crossings that are
left_by : (ia ib : Bool) (plane : Plane) (a b : ClipVertex) → is_inside plane a ≡ ia → is_inside plane b ≡ ib
    → (is_inside plane a ≡ true → IsInFront a) → (is_inside plane b ≡ true → IsInFront b)
    → (is_inside plane a ≡ true → is_inside plane b ≡ false → IsInFront (crossing plane a b))
    → (is_inside plane b ≡ true → is_inside plane a ≡ false → IsInFront (crossing plane b a))
    → IfSome (if ia then (if ib then Some (a ∷ b ∷ []) else Some (a ∷ crossing plane a b ∷ [])) else
    if ib then Some (crossing plane b a ∷ b ∷ []) else None) AreEnds
left_by true true plane a b p q keep_a keep_b cross_a cross_b = (a, b, refl, keep_a p, keep_b q)
left_by true false plane a b p q keep_a keep_b cross_a cross_b = (a, crossing plane a b, refl, keep_a p, cross_a p q)
left_by false true plane a b p q keep_a keep_b cross_a cross_b = (crossing plane b a, b, refl, cross_b q p, keep_b q)
left_by false false plane a b p q keep_a keep_b cross_a cross_b = tt

-- the plane that bounds w
first_left : (ends : List ClipVertex) → IfSome (shortened ends LeastW) AreEnds
unfolding shortened
first_left ends =
    let a = vertex ends 0 in
    let b = vertex ends 1 in
    left_by (is_inside LeastW a) (is_inside LeastW b) LeastW a b refl refl
    (inside-least_w a) (inside-least_w b) (crossing-least_w a b) (crossing-least_w b a)

-- any plane, of ends in front
next_left : (plane : Plane) (a b : ClipVertex) → IsInFront a → IsInFront b → IfSome (shortened (a ∷ b ∷ []) plane) AreEnds
unfolding shortened
next_left plane a b p q =
    left_by (is_inside plane a) (is_inside plane b) plane a b refl refl
    (λ _. p) (λ _. q) (crossing-in_front plane a b p q) (crossing-in_front plane b a q p)

-- one plane more
step_left : (left : Option (List ClipVertex)) (plane : Plane) → IfSome left AreEnds → IfSome (option_and_then (λ part. shortened part plane) left) AreEnds
step_left None plane h = tt
step_left (Some ends) plane h =
    let P : List ClipVertex → Type 0 = λ part. IfSome (shortened part plane) AreEnds in
    subst P (sym h.2) (next_left plane h.0 h.1 h.3 h.4)

all_left : (left : Option (List ClipVertex)) (rest : List Plane) → IfSome left AreEnds
    → IfSome (fold (λ (left : Option (List ClipVertex)) plane. option_and_then (λ part. shortened part plane) left) left rest) AreEnds
all_left left [] h = h
all_left left (plane ∷ rest) h = all_left (option_and_then (λ part. shortened part plane) left) rest (step_left left plane h)

-- the two ends, by index
by_index : (a b : ClipVertex) → IsInFront a → IsInFront b → All IsInFront (a ∷ b ∷ [])
by_index a b p q zero d h = p
by_index a b p q (suc zero) d h = q
by_index a b p q (suc (suc k)) d h = absurd (omega arith)

as_list : (left : Option (List ClipVertex)) → IfSome left AreEnds → IfSome left (λ ends. All IsInFront ends)
as_list None h = tt
as_list (Some ends) h =
    let P : List ClipVertex → Type 0 = λ part. All IsInFront part in
    subst P (sym h.2) (by_index h.0 h.1 h.3 h.4)

pub segment-in_front : (user : Bool) (ends : List ClipVertex) → IfSome (clipped_segment ends (planes user)) (λ part. All IsInFront part)
segment-in_front user ends = as_list (clipped_segment ends (planes user)) (all_left (shortened ends LeastW) (drop 1 (planes user)) (first_left ends))
