-- Products of whole numbers: laws of rings, signs, order and bounds.
use Rattle.std.proofs.Common.{◌≡◌, ℕ, ◌+◌, ◌*◌, ◌≤◌, ap, sym, ◌∙◌, arith}
use Rattle.std.specs.Prelude.{ℤ, pos, negsuc, ◌+ℤ◌, ◌-ℤ◌, ◌*ℤ◌, ◌≤ℤ◌, ◌<ℤ◌, unsigned_abs}
use Rattle.std.proofs.lemmas.Int.{ints, by_lt_z, unsigned_abs-mul}
use Rattle.std.proofs.lemmas.Nat.{mul-le}
use Rattle.std.proofs.Math.Nat.{one-le-mul}
use Rattle.std.proofs.Math.IntN.{*ℤ_comm, *ℤ-zero}
use borrow.Author.Differences.{up, down, sum_is_lem, product_is, same_in}

-- a product distributes over a sum on its right
pub *ℤ-+ℤ : (a b c : ℤ) → a *ℤ (b +ℤ c) ≡ a *ℤ b +ℤ a *ℤ c
*ℤ-+ℤ a b c =
    let ups : up a * (up (b +ℤ c) + down b + down c) ≡ up a * (down (b +ℤ c) + up b + up c) = ap (λ n. up a * n) (sum_is_lem b c) in
    let downs : down a * (up (b +ℤ c) + down b + down c) ≡ down a * (down (b +ℤ c) + up b + up c) = ap (λ n. down a * n) (sum_is_lem b c) in
    omega (arith, ints)

-- a product distributes over a sum on its left
pub +ℤ-*ℤ : (a b c : ℤ) → (a +ℤ b) *ℤ c ≡ a *ℤ c +ℤ b *ℤ c
+ℤ-*ℤ a b c = omega (arith, ints, *ℤ_comm (a +ℤ b) c, *ℤ_comm a c, *ℤ_comm b c, *ℤ-+ℤ c a b)

-- a product distributes over a difference on its right
pub *ℤ--ℤ : (a b c : ℤ) → a *ℤ (b -ℤ c) ≡ a *ℤ b -ℤ a *ℤ c
*ℤ--ℤ a b c =
    let back : a *ℤ (b -ℤ c +ℤ c) ≡ a *ℤ (b -ℤ c) +ℤ a *ℤ c = *ℤ-+ℤ a (b -ℤ c) c in
    let same : b -ℤ c +ℤ c ≡ b = omega (arith, ints) in
    let joined : a *ℤ b ≡ a *ℤ (b -ℤ c) +ℤ a *ℤ c = ap (λ z. a *ℤ z) (sym same) ∙ back in
    omega (arith, ints)

-- a product distributes over a difference on its left
pub -ℤ-*ℤ : (a b c : ℤ) → (a -ℤ b) *ℤ c ≡ a *ℤ c -ℤ b *ℤ c
-ℤ-*ℤ a b c = *ℤ_comm (a -ℤ b) c ∙ *ℤ--ℤ c a b ∙ omega (arith, ints, *ℤ_comm a c, *ℤ_comm b c)

-- the parts of a product of three, in which one factor is a product
three_factors : (a b c : ℤ) → (up ((a *ℤ b) *ℤ c) ≡ (up a * up b + down a * down b) * up c + (up a * down b + down a * up b) * down c)
    × (down ((a *ℤ b) *ℤ c) ≡ (up a * up b + down a * down b) * down c + (up a * down b + down a * up b) * up c)
three_factors a b c =
    let outer = product_is (a *ℤ b) c in
    let inner = product_is a b in
    (outer.0 ∙ (rw (inner.0, inner.1) (omega arith)), outer.1 ∙ (rw (inner.0, inner.1) (omega arith)))

pub *ℤ_assoc : (a b c : ℤ) → (a *ℤ b) *ℤ c ≡ a *ℤ (b *ℤ c)
*ℤ_assoc a b c =
    let turned : (a *ℤ b) *ℤ c ≡ (b *ℤ c) *ℤ a = same_in _ _ (omega (arith, three_factors a b c, three_factors b c a)) in
    turned ∙ *ℤ_comm (b *ℤ c) a

-- the outer factors of a product of three change places
pub *ℤ_swap : (a b c : ℤ) → (a *ℤ b) *ℤ c ≡ (c *ℤ b) *ℤ a
*ℤ_swap a b c = same_in _ _ (omega (arith, three_factors a b c, three_factors c b a))

-- a factor changes its sign
pub *ℤ-opposite : (a b : ℤ) → a *ℤ (pos 0 -ℤ b) ≡ pos 0 -ℤ a *ℤ b
*ℤ-opposite a b = omega (arith, ints, *ℤ--ℤ a (pos 0) b, *ℤ-zero a)

-- ---- signs and order
pub *ℤ-nonnegative : (a b : ℤ) → pos 0 ≤ℤ a → pos 0 ≤ℤ b → pos 0 ≤ℤ (a *ℤ b)
*ℤ-nonnegative (pos a) (pos b) p q = omega (arith, ints)
*ℤ-nonnegative (pos a) (negsuc b) p q = absurd (omega (arith, ints))
*ℤ-nonnegative (negsuc a) b p q = absurd (omega (arith, ints))

pub *ℤ-positive : (a b : ℤ) → pos 0 <ℤ a → pos 0 <ℤ b → pos 0 <ℤ (a *ℤ b)
*ℤ-positive (pos a) (pos b) p q =
    let some : 1 ≤ a * b = one-le-mul (omega (arith, ints, p)) (omega (arith, ints, q)) in
    omega (arith, ints)
*ℤ-positive (pos a) (negsuc b) p q = absurd (omega (arith, ints))
*ℤ-positive (negsuc a) b p q = absurd (omega (arith, ints))

-- a factor that isn't negative keeps an order
pub *ℤ-≤ : (c a b : ℤ) → pos 0 ≤ℤ c → a ≤ℤ b → (c *ℤ a) ≤ℤ (c *ℤ b)
*ℤ-≤ c a b p q =
    let apart : pos 0 ≤ℤ (c *ℤ (b -ℤ a)) = *ℤ-nonnegative c (b -ℤ a) p (omega (arith, ints)) in
    omega (arith, ints, *ℤ--ℤ c b a)

-- a positive factor keeps a strict order
pub *ℤ-< : (c a b : ℤ) → pos 0 <ℤ c → a <ℤ b → (c *ℤ a) <ℤ (c *ℤ b)
*ℤ-< c a b p q =
    let apart : pos 0 <ℤ (c *ℤ (b -ℤ a)) = *ℤ-positive c (b -ℤ a) p (omega (arith, ints)) in
    omega (arith, ints, *ℤ--ℤ c b a)

-- a positive factor is cancelled from an order
pub *ℤ-cancel_≤ : (c a b : ℤ) → pos 0 <ℤ c → (c *ℤ a) ≤ℤ (c *ℤ b) → a ≤ℤ b
*ℤ-cancel_≤ c a b p q = by_lt_z b a (λ above. absurd (omega (arith, ints, *ℤ-< c b a p above))) (λ order. order)

-- a positive factor is cancelled from a strict order
pub *ℤ-cancel_< : (c a b : ℤ) → pos 0 <ℤ c → (c *ℤ a) <ℤ (c *ℤ b) → a <ℤ b
*ℤ-cancel_< c a b p q =
    by_lt_z a b (λ order. order) (λ above. absurd (omega (arith, ints, *ℤ-≤ c b a (omega (arith, ints, p)) above)))

-- a number that a positive factor keeps above 0 is above 0
pub positive_of_*ℤ : (a b : ℤ) → pos 0 <ℤ a → pos 0 <ℤ (a *ℤ b) → pos 0 <ℤ b
positive_of_*ℤ a b p q = *ℤ-cancel_< a (pos 0) b p (omega (arith, ints, *ℤ-zero a))

-- ---- bounds
-- the size of a product is at most the product of the factors' bounds
pub unsigned_abs-*ℤ-≤ : (a b : ℤ) (m n : ℕ) → unsigned_abs a ≤ m → unsigned_abs b ≤ n → unsigned_abs (a *ℤ b) ≤ m * n
unsigned_abs-*ℤ-≤ a b m n p q = rw unsigned_abs-mul (mul-le (unsigned_abs a) (unsigned_abs b) m n p q)
