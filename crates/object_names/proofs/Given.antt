-- The least names that aren't live.
use Rattle.std.proofs.Common.{◌≡◌, ◌+◌, ◌-◌, ◌≤◌, ◌<◌, ℕ, zero, suc, Bool, true, false, cond, not, List, [], ◌∷◌, ◌++◌, length, take, take_all, None, is_some, eqb, refl, sym, ap, ◌∙◌, arith}
use Rattle.std.specs.List.{filter, range_with_len}
use Rattle.std.specs.Ordering.{nat_cmp}
use Rattle.std.specs.Cmp.{nat_cmp_total, unsigned_tied}
use Rattle.std.specs.FinMap.{FinMap, get, remove, len, contains_key, get-remove, get-empty, len-remove, empty_of_len}
use Rattle.std.proofs.lemmas.Bool.{false≢true}
use Rattle.std.proofs.lemmas.List.FromFn.{length-range_with_len}
use Rattle.std.proofs.lemmas.List.Filters.{length-filter_both}
use Rattle.std.proofs.lemmas.List.{take-append-le}
use Rattle.std.proofs.lemmas.List.Elements.{filter-append}

-- the numbers from a on, with a further stretch behind them
range-append : (a n m : ℕ) → range_with_len a (n + m) ≡ range_with_len a n ++ range_with_len (a + n) m
range-append a zero m =
    let e : a ≡ a + 0 = omega arith in
    let f : 0 + m ≡ m = omega arith in
    ap (λ (k : ℕ). range_with_len a k) f ∙ ap (λ (k : ℕ). range_with_len k m) e
range-append a (suc n) m =
    let e : a + 1 + n ≡ a + suc n = omega arith in
    let f : suc n + m ≡ suc (n + m) = omega arith in
    ap (λ (k : ℕ). range_with_len a k) f
    ∙ ap (λ (xs : List ℕ). a ∷ xs) (range-append (a + 1) n m ∙ ap (λ (k : ℕ). range_with_len (a + 1) n ++ range_with_len k m) e)

-- those among the names 1 to k that pass
abbrev pub passing : (ℕ → Bool) → ℕ → List ℕ
passing test k = filter test (range_with_len 1 k)

-- one name further
pub passing_more : (test : ℕ → Bool) (k : ℕ) → passing test (k + 1) ≡ passing test k ++ cond (test (k + 1)) ((k + 1) ∷ []) []
passing_more test k =
    let e : 1 + k ≡ k + 1 = omega arith in
    ap (filter test) (range-append 1 k 1 ∙ ap (λ (n : ℕ). range_with_len 1 k ++ n ∷ []) e)
    ∙ filter-append test (range_with_len 1 k) ((k + 1) ∷ [])

-- where enough names pass below a place, those behind it aren't looked at
pub passing_enough : (test : ℕ → Bool) (count k all : ℕ) → k ≤ all → count ≡ length (passing test k) → take count (passing test all) ≡ passing test k
passing_enough test count k all within enough =
    let e : all ≡ k + (all - k) = omega (arith, within) in
    let behind : List ℕ = filter test (range_with_len (1 + k) (all - k)) in
    ap (λ (n : ℕ). take count (passing test n)) e
    ∙ ap (λ (xs : List ℕ). take count (filter test xs)) (range-append 1 k (all - k))
    ∙ ap (take count) (filter-append test (range_with_len 1 k) (range_with_len (1 + k) (all - k)))
    ∙ take-append-le count (passing test k) behind (omega (arith, enough))
    ∙ take_all count (passing test k) (omega (arith, enough))

module _ {X : Type 0} where
  -- a map in which a name is live isn't empty
  some_live : (m : FinMap {K = ℕ} nat_cmp X) (q : ℕ) → contains_key m q ≡ true → 1 ≤ len m
  some_live m q live = not_none (len m) refl where
    not_none : (n : ℕ) → len m ≡ n → 1 ≤ n
    not_none zero none = absurd (false≢true (sym (ap is_some (get-empty nat_cmp q)) ∙ ap (λ (k : FinMap {K = ℕ} nat_cmp X). contains_key k q) (sym (empty_of_len m none)) ∙ live))
    not_none (suc n) some = omega arith

  -- names above one that is taken out are live as before
  live_above : (m : FinMap {K = ℕ} nat_cmp X) (k a n : ℕ) → k < a → filter (contains_key (remove m k)) (range_with_len a n) ≡ filter (contains_key m) (range_with_len a n)
  live_above m k a zero below = refl
  live_above m k a (suc n) below =
      let apart : eqb a k ≡ false = grind (arith) in
      let same : contains_key (remove m k) a ≡ contains_key m a = ap is_some (get-remove nat_cmp_total m k a ∙ ap (λ (b : Bool). cond b None (get m a)) (unsigned_tied a k ∙ apart)) in
      ap (λ (b : Bool). cond b (a ∷ filter (contains_key (remove m k)) (range_with_len (a + 1) n)) (filter (contains_key (remove m k)) (range_with_len (a + 1) n))) same
      ∙ ap (λ (xs : List ℕ). cond (contains_key m a) (a ∷ xs) xs) (live_above m k (a + 1) n (omega arith))

  by_first : (m : FinMap {K = ℕ} nat_cmp X) (a n : ℕ) (b : Bool) → contains_key m a ≡ b
      → length (filter (contains_key (remove m a)) (range_with_len (a + 1) n)) ≤ len (remove m a)
      → length (filter (contains_key m) (range_with_len (a + 1) n)) ≤ len m
      → length (cond b (a ∷ filter (contains_key m) (range_with_len (a + 1) n)) (filter (contains_key m) (range_with_len (a + 1) n))) ≤ len m
  by_first m a n true live without with_it =
      let same = ap length (live_above m a (a + 1) n (omega arith)) in
      let less : len (remove m a) ≡ len m - 1 = len-remove nat_cmp_total m a ∙ ap (λ (b : Bool). cond b (len m - 1) (len m)) live in
      omega (arith, without, same, less, some_live m a live)
  by_first m a n false free without with_it = with_it

  -- of names in a row no more are live than are live at all
  live_few : (m : FinMap {K = ℕ} nat_cmp X) (a n : ℕ) → length (filter (contains_key m) (range_with_len a n)) ≤ len m
  live_few m a zero = omega arith
  live_few m a (suc n) = by_first m a n (contains_key m a) refl (live_few (remove m a) (a + 1) n) (live_few m (a + 1) n)

  -- there are enough free names among so many
  pub free_enough : (m : FinMap {K = ℕ} nat_cmp X) (count : ℕ) → count ≤ length (passing (λ name. not (contains_key m name)) (count + len m))
  free_enough m count =
      let both = length-filter_both (contains_key m) (λ name. not (contains_key m name)) (λ _. refl) (range_with_len 1 (count + len m)) in
      omega (arith, both, live_few m 1 (count + len m), length-range_with_len 1 (count + len m))
