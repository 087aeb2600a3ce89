-- An edge function along a row of centres.
use Rattle.std.specs.Prelude.{ℕ, suc, ℤ, pos, negsuc, ◌+◌, ◌*◌, ◌^◌, ◌%◌, ◌<◌, ◌≤◌, ◌+ℤ◌, ◌-ℤ◌, ◌*ℤ◌, ◌≤ℤ◌, ◌<ℤ◌, ◌≡◌, ◌≢◌, ◌↔◌, nat_le, nat_lt, int_le, int_lt, Bool, true, false, ◌&&◌, ◌||◌, if◌then◌else◌, bit_or, unsigned_abs, IsTrue}
use Rattle.std.specs.Ordering.{int_eq}
use Rattle.std.specs.Int.{bit_at}
use Rattle.std.proofs.Common.{arith, FitsSigned, w64, below_more, sym, ◌∙◌}
use Rattle.std.proofs.lemmas.Int.{ints}
use Rattle.std.proofs.Math.Nat.{mul-le-mul_right}
use Rattle.std.proofs.lemmas.Nat.Bits.{bit_at_ones, bit_at-zero, bit_at_set_same, bit_at_set_other}
use mir.Val.{bits as bits_of}
use mir.Syntax.{w16}
use Rattle.std.proofs.lemmas.Bool.{lt-ltb, le-leb}
use Rattle.fx_arith.proofs.Products.{*ℤ--ℤ}
use Rattle.coverage.proofs.RunLemmas.{same_from, same_below}
use Rattle.coverage.proofs.Whole.{unsigned_abs-product}
use Rattle.coverage.specs.Steps.{margin, row_bit}
use Rattle.coverage.proofs.EdgeLemmas.{edge-step}
use Rattle.gl_records.specs.declared.prim.VertexOut.{VertexOut}
use Rattle.gl_records.specs.Center.{center}
use Rattle.gl_records.specs.Coverage.{edge, owns, inside_edge}

-- between two values of a row that are not below 0 there is none below 0
above_between : (value step : ℤ) (k : ℕ) → k < 16 → pos 0 ≤ℤ value → pos 0 ≤ℤ (value +ℤ (pos 15 *ℤ step))
    → pos 0 ≤ℤ (value +ℤ (pos k *ℤ step))
above_between value (pos n) k p q r = omega (arith, ints)
above_between value (negsuc n) k p q r =
    let less : k ≤ 15 = omega arith in
    let most = mul-le-mul_right (suc n) less in
    omega (arith, ints)

-- and between two that are below 0 all are
below_between : (value step : ℤ) (k : ℕ) → k < 16 → value <ℤ pos 0 → (value +ℤ (pos 15 *ℤ step)) <ℤ pos 0
    → (value +ℤ (pos k *ℤ step)) <ℤ pos 0
below_between value (pos n) k p q r =
    let less : k ≤ 15 = omega arith in
    let most = mul-le-mul_right n less in
    omega (arith, ints)
below_between value (negsuc n) k p q r = omega (arith, ints)

pub row_bit-above : (value step : ℤ) (k : ℕ) → pos 0 ≤ℤ (value +ℤ (pos k *ℤ step)) → row_bit value step k ≡ 1
row_bit-above value step k h = grind (arith, ints)

pub row_bit-below : (value step : ℤ) (k : ℕ) → (value +ℤ (pos k *ℤ step)) <ℤ pos 0 → row_bit value step k ≡ 0
row_bit-below value step k h = grind (arith, ints)

pub all_set : (value step : ℤ) → pos 0 ≤ℤ value → pos 0 ≤ℤ (value +ℤ (pos 15 *ℤ step))
    → (k : ℕ) → k < 16 → bit_at 65535 k ≡ row_bit value step k
all_set value step p q k h =
    rw (row_bit-above value step k (above_between value step k h p q)) (bit_at_ones 16 k h)

pub none_set : (value step : ℤ) → value <ℤ pos 0 → (value +ℤ (pos 15 *ℤ step)) <ℤ pos 0
    → (k : ℕ) → k < 16 → bit_at 0 k ≡ row_bit value step k
none_set value step p q k h =
    rw (row_bit-below value step k (below_between value step k h p q)) (bit_at-zero k)

-- how far k steps lead
pub stepped_fits : (value step : ℤ) (k : ℕ) → k ≤ 16 → unsigned_abs value ≤ 2 ^ 59 → unsigned_abs step ≤ 2 ^ 58
    → FitsSigned w64 (pos k *ℤ step) × FitsSigned w64 (value +ℤ (pos k *ℤ step))
stepped_fits value step k p q r =
    let small = unsigned_abs-product (pos k) step 16 (2 ^ 58) p r in
    (omega (arith, ints), omega (arith, ints))

-- the value at the k-th centre is below 0 where that at a later one is
below_before : (value : ℤ) (step k n : ℕ) → k ≤ n → (value +ℤ (pos n *ℤ pos step)) <ℤ pos 0 → (value +ℤ (pos k *ℤ pos step)) <ℤ pos 0
below_before value step k n less below =
    let most = mul-le-mul_right step less in
    omega (arith, ints)

above_behind : (value : ℤ) (step k n : ℕ) → n ≤ k → pos 0 ≤ℤ (value +ℤ (pos n *ℤ pos step)) → pos 0 ≤ℤ (value +ℤ (pos k *ℤ pos step))
above_behind value step k n less above =
    let most = mul-le-mul_right step less in
    omega (arith, ints)

-- between two centres, the one below 0 and the next not, all change
pub below_until : (value step : ℤ) (n : ℕ) → (value +ℤ (pos n *ℤ step)) <ℤ pos 0 → pos 0 ≤ℤ (value +ℤ (pos (n + 1) *ℤ step))
    → (k : ℕ) → (k < n + 1) ↔ ((value +ℤ (pos k *ℤ step)) <ℤ pos 0)
below_until value (pos s) n below above k = (
  (λ less. let within : k ≤ n = omega arith in below_before value s k n within below),
  (λ h.
      let apart : ¬ (n + 1 ≤ k) = λ more. let not_below = above_behind value s k (n + 1) more above in absurd (omega (arith, ints, h)) in
      omega (arith, apart)),
)
below_until value (negsuc s) n below above k = absurd (omega (arith, ints))

and_true : (b : Bool) (bit : ℕ) → bit ≡ (if b && true then 1 else 0) → bit ≡ (if b then 1 else 0)
and_true true bit is = is
and_true false bit is = is

-- a row's bits where its values rise
pub rising_bit : (value step : ℤ) (count k bit : ℕ) → k < 16 → (k < count) ↔ ((value +ℤ (pos k *ℤ step)) <ℤ pos 0)
    → bit ≡ (if nat_le count k && nat_lt k 16 then 1 else 0) → bit ≡ row_bit value step k
rising_bit value step count k bit within below is =
    and_true (int_le (pos 0) (value +ℤ (pos k *ℤ step))) bit
    (rw (same_from (pos 0) count k (value +ℤ (pos k *ℤ step)) below, lt-ltb k 16 within) at is)

below_turned : (a : ℤ) → int_lt (negsuc 0 -ℤ a) (pos 0) ≡ int_le (pos 0) a
below_turned a = grind (arith, ints)

turned_test : (value step : ℤ) (k : ℕ)
    → int_lt ((negsuc 0 -ℤ value) +ℤ (pos k *ℤ (pos 0 -ℤ step))) (pos 0) ≡ int_le (pos 0) (value +ℤ (pos k *ℤ step))
turned_test value step k =
    let turned : (negsuc 0 -ℤ value) +ℤ (pos k *ℤ (pos 0 -ℤ step)) ≡ negsuc 0 -ℤ (value +ℤ (pos k *ℤ step)) =
    omega (arith, ints, *ℤ--ℤ (pos k) (pos 0) step) in
    rw turned (below_turned (value +ℤ (pos k *ℤ step)))

-- and where they fall
pub falling_bit : (value step : ℤ) (count k bit : ℕ) → (k < count) ↔ (((negsuc 0 -ℤ value) +ℤ (pos k *ℤ (pos 0 -ℤ step))) <ℤ pos 0)
    → bit ≡ (if nat_le 0 k && nat_lt k count then 1 else 0) → bit ≡ row_bit value step k
falling_bit value step count k bit below is =
    rw (le-leb 0 k (omega arith), same_below (pos 0) count k ((negsuc 0 -ℤ value) +ℤ (pos k *ℤ (pos 0 -ℤ step))) below, turned_test value step k) at is

-- what the bits before k + 1 are to be, where bit k is set
pub set_done : (wanted : ℕ → ℕ) (k bits : ℕ) → k < 16 → wanted k ≡ 1 → ((j : ℕ) → j < k → bit_at bits j ≡ wanted j)
    → (j : ℕ) → j < k + 1 → bit_at (bit_or bits (1 * 2 ^ k % 2 ^ bits_of w16)) j ≡ wanted j
set_done wanted k bits within h done =
    below_more _ _
    (λ j less. let other : j ≢ k = omega arith in bit_at_set_other w16 bits k within j other ∙ done j less)
    (bit_at_set_same w16 bits k within ∙ sym h)

-- and where it is not
pub keep_done : (wanted : ℕ → ℕ) (k bits : ℕ) → wanted k ≡ 0
    → ((j : ℕ) → j < k → bit_at bits j ≡ wanted j) → ((j : ℕ) → k ≤ j → bit_at bits j ≡ 0)
    → (j : ℕ) → j < k + 1 → bit_at bits j ≡ wanted j
keep_done wanted k bits h done blank =
    let least : k ≤ k = omega arith in
    below_more _ _ done (blank k least ∙ sym h)

-- the bits from k + 1 on stay blank
pub set_blank : (k bits : ℕ) → k < 16 → ((j : ℕ) → k ≤ j → bit_at bits j ≡ 0)
    → (j : ℕ) → k + 1 ≤ j → bit_at (bit_or bits (1 * 2 ^ k % 2 ^ bits_of w16)) j ≡ 0
set_blank k bits within blank j h =
    let other : j ≢ k = omega arith in
    let least : k ≤ j = omega arith in
    bit_at_set_other w16 bits k within j other ∙ blank j least

whole : (e : ℤ) → e ≡ e -ℤ pos 0
whole e = omega (arith, ints)

pub margin-owned : (a b : VertexOut) (x y e : ℤ) → owns (b.x -ℤ a.x) (b.y -ℤ a.y) ≡ true
    → e ≡ edge a b (center x) (center y) → e ≡ margin a b x y
unfolding margin
margin-owned a b x y e own is = rw (own, is) (whole (edge a b (center x) (center y)))

pub margin-open : (a b : VertexOut) (x y e : ℤ) → owns (b.x -ℤ a.x) (b.y -ℤ a.y) ≡ false
    → e ≡ edge a b (center x) (center y) → e -ℤ pos 1 ≡ margin a b x y
unfolding margin
margin-open a b x y e own is = rw (own, is)

-- the edge function with its ownership is the margin's sign
pub within_by_sign : (e : ℤ) (own : Bool)
    → int_le (pos 0) (e -ℤ (if own then pos 0 else pos 1)) ≡ (int_lt (pos 0) e || (int_eq e (pos 0) && own))
within_by_sign e true = grind (arith, ints)
within_by_sign e false = grind (arith, ints)

shifted : (e t u s : ℤ) → ((e -ℤ t) +ℤ u) +ℤ s ≡ ((e +ℤ u) +ℤ s) -ℤ t
shifted e t u s = omega (arith, ints)

-- a centre of the tile is inside of an edge exactly where the stepped margin is not below 0
pub inside-stepped : (a b : VertexOut) (x y i r : ℕ)
    → int_le (pos 0) ((margin a b (pos x) (pos y) +ℤ (pos r *ℤ (pos 16 *ℤ (b.x -ℤ a.x)))) +ℤ (pos i *ℤ (pos 16 *ℤ (a.y -ℤ b.y))))
    ≡ inside_edge a b (pos (x + i)) (pos (y + r))
unfolding margin
inside-stepped a b x y i r =
    let t = if owns (b.x -ℤ a.x) (b.y -ℤ a.y) then pos 0 else pos 1 in
    let moved = shifted (edge a b (center (pos x)) (center (pos y))) t (pos r *ℤ (pos 16 *ℤ (b.x -ℤ a.x))) (pos i *ℤ (pos 16 *ℤ (a.y -ℤ b.y))) in
    rw (moved, ← edge-step a b x y i r)
    (within_by_sign (edge a b (center (pos (x + i))) (center (pos (y + r)))) (owns (b.x -ℤ a.x) (b.y -ℤ a.y)))

pub less_one_fits : (e : ℤ) → unsigned_abs e ≤ 2 * 2 ^ 55 → FitsSigned w64 (e -ℤ pos 1)
less_one_fits e h = omega (arith, ints)

exchanged : (a b c : ℤ) → ((a +ℤ b) +ℤ c) <ℤ pos 0 → ((a +ℤ c) +ℤ b) <ℤ pos 0
exchanged a b c h = omega (arith, ints)

-- where the four outermost centres of a tile are below 0, all are
pub none_inside : (value right up : ℤ) (r i : ℕ) → r < 16 → i < 16 → value <ℤ pos 0 → (value +ℤ (pos 15 *ℤ right)) <ℤ pos 0
    → (value +ℤ (pos 15 *ℤ up)) <ℤ pos 0 → ((value +ℤ (pos 15 *ℤ up)) +ℤ (pos 15 *ℤ right)) <ℤ pos 0
    → row_bit (value +ℤ (pos r *ℤ up)) right i ≡ 0
none_inside value right up r i down along p q s t =
    let left = below_between value up r down p s in
    let end = below_between (value +ℤ (pos 15 *ℤ right)) up r down q (exchanged value (pos 15 *ℤ up) (pos 15 *ℤ right) t) in
    row_bit-below (value +ℤ (pos r *ℤ up)) right i
    (below_between (value +ℤ (pos r *ℤ up)) right i along left (exchanged value (pos 15 *ℤ right) (pos r *ℤ up) end))

-- the values at the outermost centres of a tile, and what they are made of
pub record TileFits (value right up : ℤ) : Type 0 where
  pub across : FitsSigned w64 (pos 15 *ℤ right)
  pub along : FitsSigned w64 (pos 15 *ℤ up)
  pub low : FitsSigned w64 (value +ℤ (pos 15 *ℤ right))
  pub high : FitsSigned w64 (value +ℤ (pos 15 *ℤ up))
  pub last : FitsSigned w64 ((value +ℤ (pos 15 *ℤ up)) +ℤ (pos 15 *ℤ right))

pub TileFits-from : (value right up : ℤ) → unsigned_abs value ≤ 2 ^ 57 → unsigned_abs right ≤ 2 ^ 37 → unsigned_abs up ≤ 2 ^ 37
    → TileFits value right up
TileFits-from value right up p q r = record {
  across = omega (arith, ints);
  along = omega (arith, ints);
  low = omega (arith, ints);
  high = omega (arith, ints);
  last = omega (arith, ints);
}

-- four numbers are below 0 where the greatest of them is
pub all_below : (a b c d m n o : ℤ) → a ≤ℤ m → b ≤ℤ m → m ≤ℤ n → c ≤ℤ n → n ≤ℤ o → d ≤ℤ o → IsTrue (int_lt o (pos 0))
    → (a <ℤ pos 0) × (b <ℤ pos 0) × (c <ℤ pos 0) × (d <ℤ pos 0)
all_below a b c d m n o p q r s t u h =
    let last : o <ℤ pos 0 = omega (arith, ints) in
    omega (arith, ints)
