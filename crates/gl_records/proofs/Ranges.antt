-- A test of the numbers from 1 on, one after the other.
use Rattle.std.proofs.Common.{◌≡◌, ◌∙◌, ℕ, ◌<◌, ◌≤◌, ◌+◌, Bool, true, false, get_or, refl, take, ap, add_comm}
use Rattle.std.specs.List.{list_all, range_with_len}
use Rattle.std.proofs.lemmas.List.{take_all}
use Rattle.std.proofs.lemmas.List.Folds.{list_all_at, list_all_more}
use Rattle.std.proofs.lemmas.List.FromFn.{length-range_with_len, get_or-range_with_len}

-- number i of the range is i + 1
test_at : (p : ℕ → Bool) (n i : ℕ) → i < n → p (get_or (range_with_len 1 n) i 0) ≡ p (i + 1)
test_at p n i h = ap p (get_or-range_with_len 1 n i 0 h ∙ add_comm 1 i)

-- one more number passes
pub passes_more : (p : ℕ → Bool) (n i : ℕ) → i < n → list_all p (take i (range_with_len 1 n)) ≡ true → p (i + 1) ≡ true → list_all p (take (i + 1) (range_with_len 1 n)) ≡ true
passes_more p n i h so_far here =
    list_all_more p (range_with_len 1 n) i 0 (rw (length-range_with_len 1 n) h)
    ∙ rw (so_far, test_at p n i h, here) refl

-- one number doesn't pass
pub fails_at : (p : ℕ → Bool) (n i : ℕ) → i < n → p (i + 1) ≡ false → list_all p (range_with_len 1 n) ≡ false
fails_at p n i h here =
    list_all_at p (range_with_len 1 n) i 0 (rw (length-range_with_len 1 n) h) (test_at p n i h ∙ here)

-- all numbers have passed
pub passes_all : (p : ℕ → Bool) (n i : ℕ) → n ≤ i → list_all p (take i (range_with_len 1 n)) ≡ true → list_all p (range_with_len 1 n) ≡ true
passes_all p n i h so_far =
    rw (take_all i (range_with_len 1 n) (rw (length-range_with_len 1 n) h)) at so_far

-- each number of a range that passes does
pub passes_at : (p : ℕ → Bool) (n i : ℕ) → i < n → list_all p (range_with_len 1 n) ≡ true → p (i + 1) ≡ true
passes_at p n i h all = by_test (p (i + 1)) refl
  where
    by_test : (passed : Bool) → p (i + 1) ≡ passed → p (i + 1) ≡ true
    by_test true is = is
    by_test false is = absurd (cc (fails_at p n i h is, all))
