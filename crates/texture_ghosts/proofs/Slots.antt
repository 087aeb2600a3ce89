-- One slot of many changes: what becomes of a sum over all slots, and of what is kept of versions.
use Rattle.std.proofs.Common.{◌≡◌, ◌≢◌, ◌+◌, ◌≤◌, if◌then◌else◌, nat_le, Bool, true, false, ℕ, zero, suc, List, [], ◌∷◌, Option, None, Some, get_or, inl, inr, refl, sym, subst, ap, ◌∙◌, arith}
use Rattle.std.specs.List.{sum_by}
use Rattle.std.proofs.lemmas.Bool.Decides.{eqb_tells}
use Rattle.std.proofs.lemmas.Bool.{leb-true, or_parts}
use Rattle.std.proofs.lemmas.List.Sums.{sum_by-cons}
use Rattle.gl_records.specs.declared.level.ImageSet.{ImageSet}
use Rattle.gl_records.specs.ImageBytes.{image_bytes}
use Rattle.texture_ghosts.specs.Versions.{Version, IsKept, IsUnpinned, IsUsed, bytes_of_ghost, change_of, fresh, ghost_bytes, is_pinned, most_ghost_bytes, sealed_set, waits}
use Rattle.texture_ghosts.specs.declared.wrote.Wrote.TheVariants.{Ghosted, NeedsDrain}

-- slots that hold nothing add nothing
sum-none : {X : Type 0} (f : Option X → ℕ) → f None ≡ 0 → (xs : List (Option X)) → ((j : ℕ) → get_or xs j None ≡ None) → sum_by f xs ≡ 0
sum-none f zero_none [] none = refl
sum-none f zero_none (x ∷ xs) none =
    let first : f x ≡ 0 = ap f (none 0) ∙ zero_none in
    let rest : sum_by f xs ≡ 0 = sum-none f zero_none xs (λ j. none (suc j)) in
    omega (arith, first, rest, sum_by-cons f x xs)

-- equal slots have equal sums
sum-same : {X : Type 0} (f : Option X → ℕ) → f None ≡ 0 → (new old : List (Option X)) → ((j : ℕ) → get_or new j None ≡ get_or old j None) → sum_by f new ≡ sum_by f old
sum-same f zero_none [] old same = sym (sum-none f zero_none old (λ j. sym (same j)))
sum-same f zero_none (x ∷ xs) [] same = sum-none f zero_none (x ∷ xs) same
sum-same f zero_none (x ∷ xs) (y ∷ ys) same =
    let first : f x ≡ f y = ap f (same 0) in
    let rest : sum_by f xs ≡ sum_by f ys = sum-same f zero_none xs ys (λ j. same (suc j)) in
    omega (arith, first, rest, sum_by-cons f x xs, sum_by-cons f y ys)

-- one slot may differ
pub sum-changed : {X : Type 0} (f : Option X → ℕ) → f None ≡ 0 → (key : ℕ) (new old : List (Option X))
    → ((j : ℕ) → j ≢ key → get_or new j None ≡ get_or old j None)
    → sum_by f new + f (get_or old key None) ≡ sum_by f old + f (get_or new key None)
sum-changed f zero_none zero [] [] same = refl
sum-changed f zero_none zero [] (y ∷ ys) same =
    let rest : sum_by f ys ≡ 0 = sum-none f zero_none ys (λ j. sym (same (suc j) (λ e. omega (arith, e)))) in
    omega (arith, rest, zero_none, sum_by-cons f y ys)
sum-changed f zero_none zero (x ∷ xs) [] same =
    let rest : sum_by f xs ≡ 0 = sum-none f zero_none xs (λ j. same (suc j) (λ e. omega (arith, e))) in
    omega (arith, rest, zero_none, sum_by-cons f x xs)
sum-changed f zero_none zero (x ∷ xs) (y ∷ ys) same =
    let rest : sum_by f xs ≡ sum_by f ys = sum-same f zero_none xs ys (λ j. same (suc j) (λ e. omega (arith, e))) in
    omega (arith, rest, sum_by-cons f x xs, sum_by-cons f y ys)
sum-changed f zero_none (suc key) [] [] same = refl
sum-changed f zero_none (suc key) [] (y ∷ ys) same =
    let first : f None ≡ f y = ap f (same 0 (λ e. omega (arith, e))) in
    let rest : sum_by f [] + f (get_or ys key None) ≡ sum_by f ys + f (get_or [] key None) =
    sum-changed f zero_none key [] ys (λ j other. same (suc j) (λ e. other (omega (arith, e)))) in
    omega (arith, first, rest, zero_none, sum_by-cons f y ys)
sum-changed f zero_none (suc key) (x ∷ xs) [] same =
    let first : f x ≡ f None = ap f (same 0 (λ e. omega (arith, e))) in
    let rest : sum_by f xs + f (get_or [] key None) ≡ sum_by f [] + f (get_or xs key None) =
    sum-changed f zero_none key xs [] (λ j other. same (suc j) (λ e. other (omega (arith, e)))) in
    omega (arith, first, rest, zero_none, sum_by-cons f x xs)
sum-changed f zero_none (suc key) (x ∷ xs) (y ∷ ys) same =
    let first : f x ≡ f y = ap f (same 0 (λ e. omega (arith, e))) in
    let rest : sum_by f xs + f (get_or ys key None) ≡ sum_by f ys + f (get_or xs key None) =
    sum-changed f zero_none key xs ys (λ j other. same (suc j) (λ e. other (omega (arith, e)))) in
    omega (arith, first, rest, sum_by-cons f x xs, sum_by-cons f y ys)

-- the bytes of ghosts, where one slot may differ
pub ghosts-changed : (key : ℕ) (new old : List (Option Version))
    → ((j : ℕ) → j ≢ key → get_or new j None ≡ get_or old j None)
    → ghost_bytes new + bytes_of_ghost (get_or old key None) ≡ ghost_bytes old + bytes_of_ghost (get_or new key None)
unfolding ghost_bytes
ghosts-changed key new old same = sum-changed bytes_of_ghost refl key new old same

-- what is kept of versions, where one slot may differ
pub kept-changed : (key : ℕ) (new old : List (Option Version)) (lent : List (Option ImageSet)) (held_old held_new : ℕ)
    → IsKept old lent held_old
    → ((j : ℕ) → j ≢ key → get_or new j None ≡ get_or old j None)
    → sealed_set (get_or old key None) ≡ sealed_set (get_or new key None)
    → IsUsed (get_or new key None)
    → held_new + bytes_of_ghost (get_or old key None) ≡ held_old + bytes_of_ghost (get_or new key None)
    → held_new ≤ most_ghost_bytes
    → IsKept new lent held_new
kept-changed key new old lent held_old held_new kept same lends used counts few =
    let bytes = ghosts-changed key new old same in
    let held_counts = kept.counts in
    let now_counts : held_new ≡ ghost_bytes new = omega (arith, bytes, held_counts, counts) in
    record {
      counts = now_counts;
      few = omega (arith, now_counts, few);
      lends = λ v. elim (eqb_tells v key) [
        | inl is ↦
            kept.lends v ∙ ap (λ (k : ℕ). sealed_set (get_or old k None)) is.1
            ∙ lends ∙ ap (λ (k : ℕ). sealed_set (get_or new k None)) (sym is.1)
        | inr isnt ↦ kept.lends v ∙ ap sealed_set (sym (same v isnt.1))
      ];
      used = λ v. elim (eqb_tells v key) [
        | inl is ↦ subst (λ (k : ℕ). IsUsed (get_or new k None)) (sym is.1) used
        | inr isnt ↦ subst IsUsed (sym (same v isnt.1)) (kept.used v)
      ];
    }

-- nothing is kept
pub nothing_kept : IsKept [] [] 0
unfolding ghost_bytes
nothing_kept = record { counts = refl; few = omega arith; lends = λ v. refl; used = λ v. tt }

-- a slot that lends nothing, and that holds no ghost
pub record IsIdle (slot : Option Version) : Type 0 where
  pub lends : sealed_set slot ≡ None
  pub bytes : bytes_of_ghost slot ≡ 0

pub none_idle : IsIdle None
none_idle = record { lends = refl; bytes = refl }

pub fresh_idle : (set : ImageSet) → IsIdle (Some (fresh set))
fresh_idle set = record { lends = refl; bytes = refl }

pub unpinned_idle : (slot : Option Version) → IsUnpinned slot → IsIdle slot
unpinned_idle None unpinned = none_idle
unpinned_idle (Some version) unpinned =
    let unsealed = (or_parts version.gathered version.sealed unpinned).1 in
    record {
      lends = rw unsealed refl;
      bytes = rw unpinned refl;
    }

-- what is kept of versions, where an idle slot becomes another
pub kept-idle : (key : ℕ) (new old : List (Option Version)) (lent : List (Option ImageSet)) (held : ℕ)
    → IsKept old lent held
    → ((j : ℕ) → j ≢ key → get_or new j None ≡ get_or old j None)
    → IsIdle (get_or old key None)
    → IsIdle (get_or new key None)
    → IsUsed (get_or new key None)
    → IsKept new lent held
kept-idle key new old lent held kept same was is used =
    let before = was.bytes in
    let after = is.bytes in
    let counts = kept.counts in
    let few = kept.few in
    kept-changed key new old lent held held kept same (was.lends ∙ sym is.lends) used (omega (arith, before, after)) (omega (arith, counts, few))

-- the bytes of the ghosts stay then
pub ghosts-idle : (key : ℕ) (new old : List (Option Version))
    → ((j : ℕ) → j ≢ key → get_or new j None ≡ get_or old j None)
    → IsIdle (get_or old key None)
    → IsIdle (get_or new key None)
    → ghost_bytes new ≡ ghost_bytes old
ghosts-idle key new old same was is =
    let changed = ghosts-changed key new old same in
    let before = was.bytes in
    let after = is.bytes in
    omega (arith, changed, before, after)

-- a version that a pass names and that may be changed leaves room for its bytes
room-of : (room : Bool) (held bytes : ℕ) → waits (if room then Ghosted else NeedsDrain held bytes) ≡ false → room ≡ true
room-of true held bytes allowed = refl
room-of false held bytes allowed = sym allowed

pub ghost_fits : (held : ℕ) (version : Version) → is_pinned version ≡ true → waits (change_of held (Some version)) ≡ false
    → held + image_bytes version.set ≤ most_ghost_bytes
ghost_fits held version pinned allowed =
    let room = room-of (nat_le (held + image_bytes version.set) most_ghost_bytes) held (image_bytes version.set) (rw pinned at allowed) in
    leb-true _ _ room

-- what is kept of versions, where a version that a pass names is taken from its object
pub kept-left : (key : ℕ) (new old : List (Option Version)) (lent : List (Option ImageSet)) (held : ℕ) (version : Version)
    → IsKept old lent held
    → ((j : ℕ) → j ≢ key → get_or new j None ≡ get_or old j None)
    → get_or old key None ≡ Some version
    → get_or new key None ≡ Some (record version { current = false })
    → version.current ≡ true
    → is_pinned version ≡ true
    → held + image_bytes version.set ≤ most_ghost_bytes
    → IsKept new lent (held + image_bytes version.set)
kept-left key new old lent held version kept same was is current pinned fits =
    let before : bytes_of_ghost (get_or old key None) ≡ 0 = rw (was, pinned, current) refl in
    let after : bytes_of_ghost (get_or new key None) ≡ image_bytes version.set = rw (is, pinned) refl in
    let lends : sealed_set (get_or old key None) ≡ sealed_set (get_or new key None) = rw (was, is) refl in
    let used : IsUsed (get_or new key None) = rw (is, pinned) refl in
    kept-changed key new old lent held (held + image_bytes version.set) kept same lends used (omega (arith, before, after)) fits
