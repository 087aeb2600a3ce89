-- Bits of rows under a box.
use Rattle.std.proofs.Common.{◌≡◌, ◌<◌, ◌+◌, ◌-◌, ◌*◌, ◌/◌, ◌≤◌, ◌%◌, ◌^◌, ◌⊎◌, inl, inr, ◌∙◌, ap, ℕ, Bool, true, false, ◌&&◌, refl, arith, min}
use Rattle.std.specs.Prelude.{List, slice_index, Option, if◌then◌else◌, bit_and, bit_or, bit_xor}
use Rattle.std.specs.Int.Bits.{and_zero_r, or_zero_l}
use Rattle.std.proofs.lemmas.Bool.{cases_lt, false≢true}
use Rattle.std.proofs.lemmas.Nat.{and_mask, pow-add}
use Rattle.std.proofs.lemmas.Nat.Bits.{bit_at-lt, bit_at-zero, bit_at_above}
use Rattle.std.specs.Int.{bit_at}
use Rattle.gl_records.specs.declared.frag_state.FragState.{FragState}
use Rattle.gl_records.specs.declared.level.ImageSet.{ImageSet}
use Rattle.gl_records.specs.declared.pixel.Pixel.{Pixel}
use Rattle.gl_records.specs.declared.prim.Primitive.{Primitive}
use Rattle.gl_records.specs.Captured.{Draw}
use Rattle.gl_records.specs.After.{step}
use Rattle.gl_records.specs.Draw.{draw_step}
use Rattle.texture_env.specs.Shaders.{OnTile}
use Rattle.whole_surface.specs.Parts.{shown}
use Rattle.whole_surface.specs.Subjects.{drawing_of, drawn_on, shown_on, step_on}

-- a bit under a column's bit, in a row that the box has
pub held_bit : (column low high : Bool) (bit : ℕ) → bit < 2 → low ≡ true → high ≡ true
    → min bit (if column then 1 else 0) ≡ (if column && low && high then bit else 0)
held_bit true true true bit small h i = omega arith
held_bit false true true bit small h i = omega arith
held_bit column false high bit small h i = absurd (false≢true h)
held_bit column true false bit small h i = absurd (false≢true i)

-- a bit that is there where the one and the other hold
pub both_bits : (covered held : Bool) (bit : ℕ) → bit ≡ (if covered then 1 else 0) → (if held then bit else 0) ≡ (if covered && held then 1 else 0)
both_bits true true bit e = e
both_bits true false bit e = refl
both_bits false true bit e = e
both_bits false false bit e = refl

-- a value that is written under no mask
pub whole_value : (value under : ℕ) → value < 256 → bit_or (bit_and under (bit_xor 255 255)) (bit_and value 255) ≡ value
whole_value value under small =
    let kept : bit_and value 255 ≡ value % 256 = and_mask value 8 in
    let fits : value % 256 ≡ value = omega arith in
    rw (and_zero_r under, or_zero_l (bit_and value 255), kept, fits) refl

-- no bit is set behind the highest
pub none_behind : (n j i : ℕ) → n < 2 * 2 ^ j → j + 1 ≤ i → bit_at n i ≡ 0
none_behind n j i less from =
    let fits : n < 2 ^ (1 + j) = rw (pow-add 2 1 j) less in
    bit_at_above n (1 + j) i fits (omega arith)

-- a bit is set or it isn't
bit_cases : (bit : ℕ) → bit < 2 → (0 < bit) ⊎ (bit ≤ 0) → (bit ≡ 1) ⊎ (bit ≡ 0)
bit_cases bit small (inl more) = inl (omega arith)
bit_cases bit small (inr none) = inr (omega arith)

pub cases_bit : (n i : ℕ) → (bit_at n i ≡ 1) ⊎ (bit_at n i ≡ 0)
cases_bit n i = bit_cases (bit_at n i) (bit_at-lt n i) (cases_lt 0 (bit_at n i))

-- ---- a pixel whose bit is set is shown, and where no bit is set no pixel is
pub set_bit : (b : Bool) (bit : ℕ) → bit ≡ (if b then 1 else 0) → bit ≡ 1 → b ≡ true
set_bit true bit e one = refl
set_bit false bit e one = absurd (omega arith)

pub clear_bit : (b : Bool) (bit : ℕ) → bit ≡ (if b then 1 else 0) → bit ≡ 0 → b ≡ false
clear_bit true bit e zero = absurd (omega arith)
clear_bit false bit e zero = refl

step-unshown : (prim : Primitive) (state : FragState) (first second : Option ImageSet) (x y : ℕ) (pixel : Pixel) → shown prim state x y ≡ false
    → step (Draw prim state first second) x y pixel ≡ pixel
step-unshown prim state first second x y pixel h = rw h refl

step-shown : (prim : Primitive) (state : FragState) (first second : Option ImageSet) (x y : ℕ) (pixel : Pixel) → shown prim state x y ≡ true
    → step (Draw prim state first second) x y pixel ≡ draw_step prim state first second x y pixel
step-shown prim state first second x y pixel h = rw h refl

step_at : (on : OnTile) (row i : ℕ) (pixel : Pixel) → i < 16
    → step_on on (16 * row + i) pixel ≡ step (drawing_of on.subject) (on.rect.x0 + i) (on.rect.y0 + row) pixel
step_at on row i pixel within =
    let column : (16 * row + i) % 16 ≡ i = omega arith in
    let up : (16 * row + i) / 16 ≡ row = omega arith in
    ap (λ (k : ℕ). step (drawing_of on.subject) (on.rect.x0 + k) (on.rect.y0 + (16 * row + i) / 16) pixel) column
    ∙ ap (λ (k : ℕ). step (drawing_of on.subject) (on.rect.x0 + i) (on.rect.y0 + k) pixel) up

pub step_shown : (on : OnTile) (row i : ℕ) (pixel : Pixel) → i < 16 → shown_on on i row ≡ true
    → step_on on (16 * row + i) pixel ≡ drawn_on on i row pixel
step_shown on row i pixel within h =
    let s = on.subject in
    step_at on row i pixel within ∙ step-shown s.prim s.state s.first s.second (on.rect.x0 + i) (on.rect.y0 + row) pixel h

pub step_unshown : (on : OnTile) (row i : ℕ) (pixel : Pixel) → i < 16 → shown_on on i row ≡ false
    → step_on on (16 * row + i) pixel ≡ pixel
step_unshown on row i pixel within h =
    let s = on.subject in
    step_at on row i pixel within ∙ step-unshown s.prim s.state s.first s.second (on.rect.x0 + i) (on.rect.y0 + row) pixel h

pub unshown_run : (on : OnTile) (r bits from to : ℕ) → to ≤ 16 → ((i : ℕ) → from ≤ i → i < to → bit_at bits i ≡ 0)
    → ((i : ℕ) → i < 16 → bit_at bits i ≡ (if shown_on on i r then 1 else 0))
    → (k : ℕ) (pixel : Pixel) → 16 * r + from ≤ k → k < 16 * r + to → step_on on k pixel ≡ pixel
unshown_run on r bits from to within none told k pixel low high =
    let s = on.subject in
    let i = k - 16 * r in
    let less : i < 16 = omega arith in
    let column : i ≡ k % 16 = omega arith in
    let row : r ≡ k / 16 = omega arith in
    let begun : from ≤ i = omega arith in
    let not_ended : i < to = omega arith in
    let off : shown s.prim s.state (on.rect.x0 + i) (on.rect.y0 + r) ≡ false = clear_bit _ (bit_at bits i) (told i less) (none i begun not_ended) in
    step-unshown s.prim s.state s.first s.second (on.rect.x0 + k % 16) (on.rect.y0 + k / 16) pixel (rw (column, row) at off)

-- the same of a whole row
pub unshown : (on : OnTile) (r bits : ℕ) → bits ≡ 0
    → ((i : ℕ) → i < 16 → bit_at bits i ≡ (if shown_on on i r then 1 else 0))
    → (k : ℕ) (pixel : Pixel) → 16 * r ≤ k → k < 16 * r + 16 → step_on on k pixel ≡ pixel
unshown on r bits none told k pixel low high =
    unshown_run on r bits 0 16 (omega arith) (λ i from to. rw none (bit_at-zero i)) told k pixel (omega arith) high

-- and of a whole tile
pub all_unshown : (on : OnTile) (rows : List ℕ) → ((r : ℕ) → r < 16 → slice_index rows r ≡ 0)
    → ((r i : ℕ) → r < 16 → i < 16 → bit_at (slice_index rows r) i ≡ (if shown_on on i r then 1 else 0))
    → (k : ℕ) (pixel : Pixel) → k < 256 → step_on on k pixel ≡ pixel
all_unshown on rows none told k pixel within =
    let r = k / 16 in
    let less : r < 16 = omega arith in
    unshown on r (slice_index rows r) (none r less) (λ i inside. told r i less inside) k pixel (omega arith) (omega arith)
