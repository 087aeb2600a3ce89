-- Polygons: how many corners the planes leave, and that each is in front.
use Rattle.std.proofs.Common.{◌≡◌, ◌<◌, ◌≤◌, ◌+◌, ◌-◌, ℕ, refl, sym, subst, length, take, drop, length-append, length-drop, arith}
use Rattle.std.specs.Prelude.{Bool, true, false, not, List, [], ◌∷◌, if◌then◌else◌}
use Rattle.std.specs.List.{All, list_all, list_any}
use Rattle.std.proofs.lemmas.List.Elements.{All-nil, All-cons, All-append, All-drop, All-take, All-from_get_or}
use Rattle.std.proofs.lemmas.List.Sums.{AllPass-from_list_all}
use Rattle.std.proofs.lemmas.List.{get_or-drop}
use Rattle.gl_records.specs.declared.clip_vertex.ClipVertex.{ClipVertex}
use Rattle.gl_records.specs.ClipVertex.{vertex, no_vertex}
use Rattle.clipper.specs.declared.planes.Plane.{Plane}
use Rattle.clipper.specs.declared.planes.Plane.TheVariants.{LeastW}
use Rattle.clipper.specs.Crossing.{crossing}
use Rattle.clipper.specs.Planes.{is_inside, planes, IsInFront}
use Rattle.clipper.specs.Polygon.{first_out, turned, run_length, cut, clipped, clipped_polygon, IsMixed, IsTurned}
use Rattle.clipper.proofs.Fronts.{inside-least_w, crossing-least_w, crossing-in_front}
use Rattle.clipper.proofs.Rounds.{out-found, length-turned, turned-is, comes_in-is, run-found}

-- ---- the three cases of a plane
by_cases : (P : List ClipVertex → Type 0) (all any : Bool) (corners : List ClipVertex) (plane : Plane)
    → (all ≡ true → P corners) → P [] → (all ≡ false → any ≡ true → P (cut plane (turned (first_out plane corners) corners)))
    → P (if all then corners else if not any then [] else cut plane (turned (first_out plane corners) corners))
by_cases P true any corners plane kept none made = kept refl
by_cases P false false corners plane kept none made = none
by_cases P false true corners plane kept none made = made refl refl

-- ---- how many
length-cut : (plane : Plane) (t : List ClipVertex) → IsTurned plane t → (3 ≤ length (cut plane t)) × (length (cut plane t) ≤ length t + 1)
unfolding cut
length-cut plane t turn =
    let s = length t - run_length plane t in
    let at = comes_in-is plane t turn in
    let long = length-append (crossing plane (vertex t s) (vertex t (s - 1)) ∷ drop s t) (crossing plane (vertex t (length t - 1)) (vertex t 0) ∷ []) in
    (omega (arith, at.some_left, long, length-drop s t), omega (arith, at.some_before, long, length-drop s t))

-- of what one plane leaves of so many corners: not more than one is added, and fewer than three are none
abbrev IsLength : ℕ → ℕ → Type 0
IsLength old new = (new ≤ old + 1) × ((0 < old → 3 ≤ old) → 0 < new → 3 ≤ new)

pub length-clipped : (corners : List ClipVertex) (plane : Plane) → IsLength (length corners) (length (clipped corners plane))
unfolding clipped
length-clipped corners plane =
    let P : List ClipVertex → Type 0 = λ left. IsLength (length corners) (length left) in
    by_cases P (list_all (is_inside plane) corners) (list_any (is_inside plane) corners) corners plane
    (λ _. (omega arith, λ h. h)) (omega arith, λ _ some. absurd (omega (arith, some)))
    (λ p q.
    let mixed : IsMixed plane corners = record { some_outside = p; some_inside = q } in
    let long = length-turned corners (first_out plane corners) (out-found plane corners mixed) in
    let lengths = length-cut plane (turned (first_out plane corners) corners) (turned-is plane corners mixed) in
    (omega (arith, long, lengths.1), λ _ _. lengths.0))

pub length-polygon : (corners : List ClipVertex) (rest : List Plane) → (0 < length corners → 3 ≤ length corners)
    → 0 < length (clipped_polygon corners rest) → 3 ≤ length (clipped_polygon corners rest)
length-polygon corners [] h = h
length-polygon corners (plane ∷ rest) h = length-polygon (clipped corners plane) rest ((length-clipped corners plane).1 h)

-- ---- w, where a plane keeps and makes only corners in front of corners that are so and so
module _ (P : ClipVertex → Type 0) (plane : Plane)
    (kept : (v : ClipVertex) → P v → is_inside plane v ≡ true → IsInFront v)
    (made : (a b : ClipVertex) → P a → P b → is_inside plane a ≡ true → is_inside plane b ≡ false → IsInFront (crossing plane a b)) where
  cut-fronts : (t : List ClipVertex) → IsTurned plane t → All P t → All IsInFront (cut plane t)
  unfolding cut
  cut-fronts t turn all =
      let s = length t - run_length plane t in
      let last = length t - 1 in
      let at = comes_in-is plane t turn in
      let run = run-found plane t in
      let before = made (vertex t s) (vertex t (s - 1)) (all s no_vertex at.some_left) (all (s - 1) no_vertex (omega (arith, at.some_left))) at.inside at.outside in
      let after = made (vertex t last) (vertex t 0) (all last no_vertex (omega (arith, turn.some))) (all 0 no_vertex turn.some) turn.last turn.first in
      let inner = All-from_get_or IsInFront (drop s t) no_vertex (λ i h.
      let within : s + i < length t = omega (arith, h, length-drop s t) in
      subst IsInFront (sym (get_or-drop s t i no_vertex))
      (kept (vertex t (s + i)) (all (s + i) no_vertex within) (run.inner (s + i) (omega arith) within))) in
      All-append IsInFront (crossing plane (vertex t s) (vertex t (s - 1)) ∷ drop s t) (crossing plane (vertex t last) (vertex t 0) ∷ [])
      (All-cons IsInFront (crossing plane (vertex t s) (vertex t (s - 1))) (drop s t) before inner)
      (All-cons IsInFront (crossing plane (vertex t last) (vertex t 0)) [] after (All-nil IsInFront))

  clipped-fronts : (corners : List ClipVertex) → All P corners → All IsInFront (clipped corners plane)
  unfolding clipped
  clipped-fronts corners all =
      by_cases (λ left. All IsInFront left) (list_all (is_inside plane) corners) (list_any (is_inside plane) corners) corners plane
      (λ p k d h. kept _ (all k d h) (AllPass-from_list_all (is_inside plane) corners p k d h))
      (All-nil IsInFront)
      (λ p q.
      let i = first_out plane corners in
      let mixed : IsMixed plane corners = record { some_outside = p; some_inside = q } in
      cut-fronts (turned i corners) (turned-is plane corners mixed)
      (All-append P (drop (i + 1) corners) (take (i + 1) corners) (All-drop P (i + 1) corners all) (All-take P (i + 1) corners all)))

-- the plane that bounds w
first-fronts : (corners : List ClipVertex) → All IsInFront (clipped corners LeastW)
first-fronts corners =
    clipped-fronts (λ _. Unit {0}) LeastW (λ v _ p. inside-least_w v p) (λ a b _ _ p q. crossing-least_w a b p q) corners (λ k d h. tt)

-- the later ones
later-fronts : (corners : List ClipVertex) (rest : List Plane) → All IsInFront corners → All IsInFront (clipped_polygon corners rest)
later-fronts corners [] all = all
later-fronts corners (plane ∷ rest) all =
    later-fronts (clipped corners plane) rest
    (clipped-fronts IsInFront plane (λ v front _. front) (λ a b p q. crossing-in_front plane a b p q) corners all)

pub polygon-in_front : (user : Bool) (corners : List ClipVertex) → All IsInFront (clipped_polygon corners (planes user))
polygon-in_front user corners = later-fronts (clipped corners LeastW) (drop 1 (planes user)) (first-fronts corners)
