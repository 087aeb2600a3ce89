-- A table of entries by names is the map of its entries.
use Rattle.std.proofs.Common.{◌≡◌, ◌+◌, ℕ, Bool, false, cond, List, [], ◌∷◌, length, Option, Some, None, is_some, IsTrue, refl, sym, ap, ◌∙◌, arith}
use Rattle.std.specs.Prelude.{nat_eq}
use Rattle.std.specs.List.{IsDistinct, AllByRecursion, list_any}
use Rattle.std.specs.Map.{lookup, keys_of}
use Rattle.std.specs.Ordering.{nat_cmp, eq_by_cmp}
use Rattle.std.specs.Cmp.{nat_cmp_total, nat_eq_equiv, unsigned_tied}
use Rattle.std.specs.FinMap.{find, get, insert, remove, len, contains_key, from_entries, get-from_entries, get-insert, get-remove, len-insert, len-empty, same_map, nat_cmp-IsAntisymmetric}
use Rattle.std.proofs.lemmas.Bool.{false≢true}
use Rattle.std.proofs.lemmas.Map.Keys.{IsDistinct-head, IsDistinct-tail}
use Rattle.std.specs.Option.{option_flatten}
use Rattle.std.proofs.lemmas.Map.Made.{is_some-lookup}
use Rattle.object_names.specs.Names.{object_at}

-- two names tie exactly where they are equal, whichever comes first
tied : (q k : ℕ) → eq_by_cmp nat_cmp q k ≡ nat_eq k q
tied q k = unsigned_tied q k ∙ nat_eq_equiv.symm q k

none_of_them : (k : ℕ) (ks : List ℕ) → AllByRecursion (λ y. nat_eq k y ≡ false) ks → list_any (nat_eq k) ks ≡ false
none_of_them k [] apart = refl
none_of_them k (x ∷ ks) apart = rw apart.0 (none_of_them k ks apart.1)

module _ {X : Type 0} where
  find_is_lookup : (q : ℕ) (es : List (ℕ × X)) → find nat_cmp q es ≡ lookup (nat_eq q) es
  find_is_lookup q [] = refl
  find_is_lookup q (e ∷ es) =
      ap (λ (b : Bool). cond b (Some e.1) (find nat_cmp q es)) (unsigned_tied q e.0)
      ∙ ap (λ (o : Option X). cond (nat_eq q e.0) (Some e.1) o) (find_is_lookup q es)

  -- what the map of the entries has at a name
  pub get-table : (es : List (ℕ × X)) (q : ℕ) → get (from_entries {R = nat_cmp} es) q ≡ lookup (nat_eq q) es
  get-table es q = get-from_entries nat_cmp_total es q ∙ find_is_lookup q es

  -- entries that answer alike are the same map
  pub table_same : (es fs : List (ℕ × X)) → ((q : ℕ) → lookup (nat_eq q) fs ≡ lookup (nat_eq q) es) → from_entries {R = nat_cmp} fs ≡ from_entries es
  table_same es fs is = same_map nat_cmp_total nat_cmp-IsAntisymmetric _ _ (λ q. get-table fs q ∙ is q ∙ sym (get-table es q))

  -- a name that is put in
  pub table_put : (es fs : List (ℕ × X)) (k : ℕ) (v : X) → ((q : ℕ) → lookup (nat_eq q) fs ≡ cond (nat_eq k q) (Some v) (lookup (nat_eq q) es))
      → from_entries {R = nat_cmp} fs ≡ insert (from_entries es) k v
  table_put es fs k v is = same_map nat_cmp_total nat_cmp-IsAntisymmetric _ _ (λ q.
      get-table fs q ∙ is q
      ∙ ap (λ (o : Option X). cond (nat_eq k q) (Some v) o) (sym (get-table es q))
      ∙ ap (λ (b : Bool). cond b (Some v) (get (from_entries {R = nat_cmp} es) q)) (sym (tied q k))
      ∙ sym (get-insert nat_cmp_total (from_entries es) k v q))

  -- a name that is taken out
  pub table_without : (es fs : List (ℕ × X)) (k : ℕ) → ((q : ℕ) → lookup (nat_eq q) fs ≡ cond (nat_eq k q) None (lookup (nat_eq q) es))
      → from_entries {R = nat_cmp} fs ≡ remove (from_entries es) k
  table_without es fs k is = same_map nat_cmp_total nat_cmp-IsAntisymmetric _ _ (λ q.
      get-table fs q ∙ is q
      ∙ ap (λ (o : Option X). cond (nat_eq k q) None o) (sym (get-table es q))
      ∙ ap (λ (b : Bool). cond b None (get (from_entries {R = nat_cmp} es) q)) (sym (tied q k))
      ∙ sym (get-remove nat_cmp_total (from_entries es) k q))

  -- a name that no entry has isn't live
  pub not_live : (es : List (ℕ × X)) (q : ℕ) → lookup (nat_eq q) es ≡ None → IsTrue (contains_key (from_entries {R = nat_cmp} es) q) → ⊥
  not_live es q none live = false≢true (sym (ap is_some (get-table es q ∙ none)) ∙ live)

  -- there are as many names as entries
  pub len-table : (es : List (ℕ × X)) → IsDistinct nat_eq (keys_of es) → len (from_entries {R = nat_cmp} es) ≡ length es
  len-table [] apart = len-empty nat_cmp X
  len-table (e ∷ es) apart =
      let new : contains_key (from_entries {R = nat_cmp} es) e.0 ≡ false = ap is_some (get-table es e.0) ∙ is_some-lookup (nat_eq e.0) es ∙ none_of_them e.0 (keys_of es) (IsDistinct-head nat_eq e.0 (keys_of es) apart) in
      let rest : len (from_entries {R = nat_cmp} es) ≡ length es = len-table es (IsDistinct-tail nat_eq e.0 (keys_of es) apart) in
      len-insert nat_cmp_total (from_entries es) e.0 e.1
      ∙ ap (λ (b : Bool). cond b (len (from_entries {R = nat_cmp} es)) (len (from_entries {R = nat_cmp} es) + 1)) new
      ∙ omega (arith, rest)

module _ {V : Type 0} where
  -- the object that a name stands for
  pub object-table : (es : List (ℕ × Option V)) (q : ℕ) → object_at (from_entries es) q ≡ option_flatten (lookup (nat_eq q) es)
  object-table es q = ap option_flatten (get-table es q)
