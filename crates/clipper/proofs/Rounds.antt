-- Corners in a ring: a polygon that is neither inside nor outside goes out at some corner, and read from there it
-- begins outside and ends with a run of inside corners.
use Rattle.std.proofs.Common.{◌≡◌, ◌<◌, ◌≤◌, ◌+◌, ◌-◌, ◌%◌, ℕ, zero, suc, refl, sym, ap, subst, ◌∙◌, inl, inr, List, length, take, drop, get_or, true≢false, length-append, length-take, length-drop, arith}
use Rattle.std.specs.Prelude.{Bool, true, false, not, ◌&&◌}
use Rattle.std.specs.List.{list_all, range_with_len}
use Rattle.std.proofs.lemmas.Bool.{cases_lt, cases_Bool}
use Rattle.std.proofs.lemmas.List.{get_or_append_left, get_or-append_right, get_or-take, get_or-drop, get_or_default}
use Rattle.std.proofs.lemmas.List.Folds.{Any-from_list_any}
use Rattle.std.proofs.lemmas.List.FromFn.{length-range_with_len, get_or-range_with_len}
use Rattle.std.proofs.lemmas.List.Sums.{fails_before_first, passes_at_first, position_or_len_is, list_all-from_AllPass, suffix_len_is}
use Rattle.std.proofs.lemmas.Nat.{mod-mul-add}
use Rattle.gl_records.specs.declared.clip_vertex.ClipVertex.{ClipVertex}
use Rattle.gl_records.specs.ClipVertex.{vertex, no_vertex}
use Rattle.clipper.specs.declared.planes.Plane.{Plane}
use Rattle.clipper.specs.Planes.{is_inside}
use Rattle.clipper.specs.Polygon.{corner, goes_out, first_out, turned, run_length, IsMixed, IsTurned, ComesInAt}

-- ---- corners, counted round
remainder : (i n : ℕ) → i < n → i % n ≡ i
remainder i n h = ap (λ m. m % n) (omega arith) ∙ mod-mul-add 0 n i h

round : (n : ℕ) → 0 < n → n % n ≡ 0
round n h = ap (λ m. m % n) (omega arith) ∙ mod-mul-add 1 n 0 h

pub corner-below : (xs : List ClipVertex) (i : ℕ) → i < length xs → corner xs i ≡ vertex xs i
corner-below xs i h = ap (vertex xs) (remainder i (length xs) h)

pub corner-round : (xs : List ClipVertex) (i : ℕ) → i + 1 ≡ length xs → corner xs (i + 1) ≡ vertex xs 0
corner-round xs i h = ap (vertex xs) (ap (λ m. m % length xs) h ∙ round (length xs) (omega arith))

-- ---- the list that is read from the corner after i round to i
pub length-turned : (xs : List ClipVertex) (i : ℕ) → i < length xs → length (turned i xs) ≡ length xs
length-turned xs i h = omega (arith, length-append (drop (i + 1) xs) (take (i + 1) xs), length-take (i + 1) xs, length-drop (i + 1) xs)

pub turned-last : (xs : List ClipVertex) (i : ℕ) → i < length xs → vertex (turned i xs) (length xs - 1) ≡ vertex xs i
turned-last xs i h =
    let front : length (drop (i + 1) xs) ≡ length xs - (i + 1) = length-drop (i + 1) xs in
    get_or-append_right (drop (i + 1) xs) (take (i + 1) xs) (length xs - (i + 1)) (length xs - 1) no_vertex front (omega arith)
    ∙ ap (vertex (take (i + 1) xs)) (omega arith) ∙ get_or-take (i + 1) xs i no_vertex (omega arith)

pub turned-first : (xs : List ClipVertex) (i : ℕ) → i < length xs → vertex (turned i xs) 0 ≡ corner xs (i + 1)
turned-first xs i h =
    let front : length (drop (i + 1) xs) ≡ length xs - (i + 1) = length-drop (i + 1) xs in
    elim (cases_lt (i + 1) (length xs)) [
      | inl below ↦ get_or_append_left (drop (i + 1) xs) (take (i + 1) xs) no_vertex 0 (omega arith)
          ∙ get_or-drop (i + 1) xs 0 no_vertex ∙ ap (vertex xs) (omega arith) ∙ sym (corner-below xs (i + 1) below)
      | inr above ↦ get_or-append_right (drop (i + 1) xs) (take (i + 1) xs) 0 0 no_vertex (omega arith) (omega arith)
          ∙ get_or-take (i + 1) xs 0 no_vertex (omega arith) ∙ sym (corner-round xs i (omega arith))
    ]

-- ---- where it goes out
out_parts : (a b : Bool) → (a && not b) ≡ true → (a ≡ true) × (b ≡ false)
out_parts true true h = absurd (true≢false (sym h))
out_parts true false h = (refl, refl)
out_parts false b h = absurd (true≢false (sym h))

no_way_out : (a b : Bool) → (a && not b) ≡ false → a ≡ true → b ≡ true
no_way_out true true h p = refl
no_way_out true false h p = absurd (true≢false h)
no_way_out false b h p = absurd (true≢false (sym p))

module _ (plane : Plane) (xs : List ClipVertex) (stays : (k : ℕ) → k < length xs → goes_out plane xs k ≡ false) where
  next_inside : (k : ℕ) → k + 1 < length xs → is_inside plane (vertex xs k) ≡ true → is_inside plane (vertex xs (k + 1)) ≡ true
  next_inside k h p =
      ap (is_inside plane) (sym (corner-below xs (k + 1) h))
      ∙ no_way_out _ _ (stays k (omega arith)) (ap (is_inside plane) (corner-below xs k (omega arith)) ∙ p)

  round_inside : (k : ℕ) → k + 1 ≡ length xs → is_inside plane (vertex xs k) ≡ true → is_inside plane (vertex xs 0) ≡ true
  round_inside k h p =
      ap (is_inside plane) (sym (corner-round xs k h))
      ∙ no_way_out _ _ (stays k (omega arith)) (ap (is_inside plane) (corner-below xs k (omega arith)) ∙ p)

  on_inside : (m k : ℕ) → k + m < length xs → is_inside plane (vertex xs k) ≡ true → is_inside plane (vertex xs (k + m)) ≡ true
  on_inside zero k h p = ap (λ i. is_inside plane (vertex xs i)) (omega arith) ∙ p
  on_inside (suc m) k h p =
      ap (λ i. is_inside plane (vertex xs i)) (omega arith)
      ∙ next_inside (k + m) (omega arith) (on_inside m k (omega arith) p)

  each_inside : (j : ℕ) → j < length xs → is_inside plane (vertex xs j) ≡ true → (k : ℕ) → k < length xs → is_inside plane (vertex xs k) ≡ true
  each_inside j within p k h =
      let last : is_inside plane (vertex xs (length xs - 1)) ≡ true =
      ap (λ i. is_inside plane (vertex xs i)) (omega arith) ∙ on_inside (length xs - 1 - j) j (omega arith) p in
      let first = round_inside (length xs - 1) (omega arith) last in
      ap (λ i. is_inside plane (vertex xs i)) (omega arith) ∙ on_inside k 0 (omega arith) first

range_at : (n k : ℕ) → k < n → get_or (range_with_len 0 n) k 0 ≡ k
range_at n k h = get_or-range_with_len 0 n k 0 h ∙ omega arith

-- it does go out
pub some-out : (plane : Plane) (xs : List ClipVertex) → IsMixed plane xs → ((k : ℕ) → k < length xs → goes_out plane xs k ≡ false) → ⊥
some-out plane xs mixed stays =
    let any = Any-from_list_any (is_inside plane) xs mixed.some_inside in
    let at : is_inside plane (vertex xs any.0) ≡ true =
    ap (is_inside plane) (get_or_default xs any.0 no_vertex any.1 any.2 ∙ any.3) ∙ any.4 in
    let each : list_all (is_inside plane) xs ≡ true = list_all-from_AllPass (is_inside plane) xs
    (λ k d h. ap (is_inside plane) (get_or_default xs k d no_vertex h) ∙ each_inside plane xs stays any.0 any.2 at k h) in
    true≢false (sym each ∙ mixed.some_outside)

pub out-found : (plane : Plane) (xs : List ClipVertex) → IsMixed plane xs → first_out plane xs < length xs
unfolding first_out
out-found plane xs mixed =
    let n = length xs in
    let out = goes_out plane xs in
    elim (cases_lt (first_out plane xs) n) [
      | inl below ↦ below
      | inr above ↦ absurd (some-out plane xs mixed (λ k h.
          ap out (sym (range_at n k h)) ∙ fails_before_first out (range_with_len 0 n) k 0 (omega (arith, above))))
    ]

pub first-is : (plane : Plane) (xs : List ClipVertex) (i : ℕ) → i < length xs → ((k : ℕ) → k < i → goes_out plane xs k ≡ false) → goes_out plane xs i ≡ true
    → i ≡ first_out plane xs
unfolding first_out
first-is plane xs i within before at =
    let n = length xs in
    let out = goes_out plane xs in
    let range : length (range_with_len 0 n) ≡ n = length-range_with_len 0 n in
    sym (position_or_len_is out (range_with_len 0 n) i 0 (omega (arith, range))
    (λ k h. ap out (range_at n k (omega arith)) ∙ before k h)
    (λ h. ap out (range_at n i within) ∙ at))

pub out-goes : (plane : Plane) (xs : List ClipVertex) → first_out plane xs < length xs → goes_out plane xs (first_out plane xs) ≡ true
unfolding first_out
out-goes plane xs h =
    let n = length xs in
    let out = goes_out plane xs in
    let range : length (range_with_len 0 n) ≡ n = length-range_with_len 0 n in
    ap out (sym (range_at n (first_out plane xs) h)) ∙ passes_at_first out (range_with_len 0 n) 0 (omega (arith, h, range))

-- ---- read from there
pub turned-is : (plane : Plane) (xs : List ClipVertex) → IsMixed plane xs → IsTurned plane (turned (first_out plane xs) xs)
turned-is plane xs mixed =
    let i = first_out plane xs in
    let within = out-found plane xs mixed in
    let long = length-turned xs i within in
    let parts = out_parts _ _ (out-goes plane xs within) in
    record {
      some = omega (arith, long, within);
      first = ap (is_inside plane) (turned-first xs i within) ∙ parts.1;
      last = ap (λ k. is_inside plane (vertex (turned i xs) (k - 1))) long ∙ ap (is_inside plane) (turned-last xs i within)
          ∙ ap (is_inside plane) (sym (corner-below xs i within)) ∙ parts.0;
    }

-- ---- the run of inside corners at the end, from corner s on
pub record IsRun (plane : Plane) (t : List ClipVertex) (s : ℕ) : Type 0 where
  pub within : s ≤ length t
  pub inner : (k : ℕ) → s ≤ k → k < length t → is_inside plane (vertex t k) ≡ true
  pub before : 0 < s → is_inside plane (vertex t (s - 1)) ≡ false

pub run-is : (plane : Plane) (t : List ClipVertex) (s : ℕ) → IsRun plane t s → s ≡ length t - run_length plane t
run-is plane t s run =
    omega (arith, run.within, suffix_len_is (is_inside plane) t s no_vertex run.within run.inner run.before)

-- there is one
run_below : (plane : Plane) (t : List ClipVertex) (n : ℕ) → n ≤ length t
    → (s : ℕ) × (s ≤ n) × ((k : ℕ) → s ≤ k → k < n → is_inside plane (vertex t k) ≡ true) × (0 < s → is_inside plane (vertex t (s - 1)) ≡ false)
run_below plane t zero h = (0, omega arith, (λ k p q. absurd (omega arith)), (λ p. absurd (omega arith)))
run_below plane t (suc n) h =
    let so_far = run_below plane t n (omega arith) in
    elim (cases_Bool (is_inside plane (vertex t n))) [
      | inl inside ↦ (
        so_far.0,
        omega (arith, so_far.1),
        (λ k p q.
            elim (cases_lt k n) [
              | inl below ↦ so_far.2 k p below
              | inr above ↦ ap (λ i. is_inside plane (vertex t i)) (omega arith) ∙ inside
            ]),
        so_far.3,
      )
      | inr outside ↦ (suc n, omega arith, (λ k p q. absurd (omega arith)), (λ _. ap (λ i. is_inside plane (vertex t i)) (omega arith) ∙ outside))
    ]

pub run-found : (plane : Plane) (t : List ClipVertex) → IsRun plane t (length t - run_length plane t)
run-found plane t =
    let it = run_below plane t (length t) (omega arith) in
    let run : IsRun plane t it.0 = record { within = it.1; inner = it.2; before = it.3 } in
    subst (IsRun plane t) (run-is plane t it.0 run) run

-- where it begins
comes_in_from : (plane : Plane) (t : List ClipVertex) (s : ℕ) → IsTurned plane t → IsRun plane t s → ComesInAt plane t s
comes_in_from plane t s turn run =
    let some_before : 0 < s = elim (cases_lt 0 s) [
      | inl some ↦ some
      | inr none ↦ absurd (true≢false (sym (run.inner 0 none turn.some) ∙ turn.first))
    ] in
    let some_left : s < length t = elim (cases_lt s (length t)) [
      | inl some ↦ some
      | inr none ↦
          let end : s ≡ length t = omega (arith, none, run.within) in
          absurd (true≢false (sym turn.last ∙ ap (λ k. is_inside plane (vertex t (k - 1))) (sym end) ∙ run.before some_before))
    ] in
    record { some_before = some_before; some_left = some_left; inside = run.inner s (omega arith) some_left; outside = run.before some_before }

pub comes_in-is : (plane : Plane) (t : List ClipVertex) → IsTurned plane t → ComesInAt plane t (length t - run_length plane t)
comes_in-is plane t turn = comes_in_from plane t _ turn (run-found plane t)
