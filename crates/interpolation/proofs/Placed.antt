-- Rows that are made place by place.
use Rattle.std.proofs.Common.{◌≡◌, ◌<◌, ◌≤◌, ◌+◌, ℕ, List, get_or, length, slice_set, inl, inr, ap, arith, subst, sym, ◌∙◌}
use Rattle.std.specs.Prelude.{ℤ, pos}
use Rattle.std.proofs.lemmas.Bool.Decides.{eqb_tells}
use Rattle.std.proofs.lemmas.List.{get_or-set_other, get_or-set_same}
use Rattle.fx_arith.specs.declared.fx.Fx.{Fx}
use Rattle.fx_arith.specs.Number.{component, fixed}

-- one more of the numbers that f gives
pub placed : (values : List Fx) (from i : ℕ) (x : Fx) (f : ℕ → ℤ) → i < length values
    → ((j : ℕ) → from ≤ j → j < i → component values j ≡ f j) → x.0 ≡ f i
    → (j : ℕ) → from ≤ j → j < i + 1 → component (slice_set values i x) j ≡ f j
placed values from i x f inside done is j begun less = elim (eqb_tells j i) [
  | inl same ↦
      ap (λ (k : ℕ). component (slice_set values i x) k) same.1
      ∙ ap (λ (y : Fx). y.0) (get_or-set_same values i x (fixed (pos 0)) inside) ∙ is ∙ ap f (sym same.1)
  | inr other ↦
      let below : j < i = omega (arith, other.1) in
      ap (λ (y : Fx). y.0) (get_or-set_other values i j x (fixed (pos 0)) other.1) ∙ done j begun below
]

-- one more place of which P holds
pub placed-all : {A : Type 0} (l : List A) (i : ℕ) (a d : A) (P : ℕ → A → Type 0) → i < length l
    → ((j : ℕ) → j < i → P j (get_or l j d)) → P i a → (j : ℕ) → j < i + 1 → P j (get_or (slice_set l i a) j d)
placed-all l i a d P inside done is j less = elim (eqb_tells j i) [
  | inl same ↦
      let here : get_or (slice_set l i a) j d ≡ a = ap (λ (k : ℕ). get_or (slice_set l i a) k d) same.1 ∙ get_or-set_same l i a d inside in
      subst (λ b. P j b) (sym here) (subst (λ (k : ℕ). P k a) (sym same.1) is)
  | inr other ↦
      let below : j < i = omega (arith, other.1) in
      subst (λ b. P j b) (sym (get_or-set_other l i j a d other.1)) (done j below)
]
