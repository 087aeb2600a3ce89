-- The bytes of a number that was read from them.
use Rattle.std.proofs.Common.{◌≡◌, ◌≤◌, ◌<◌, ◌+◌, ℕ, zero, suc, List, length, take, drop, get_or, refl, sym, ap, ◌∙◌, inl, inr, arith}
use Rattle.std.specs.Int.{w16, w32, from_le_bytes}
use Rattle.std.proofs.lemmas.Bool.{cases_lt}
use Rattle.std.proofs.lemmas.List.{get_or-drop, get_or-take, get_or_past, length-take, length-drop}
use Rattle.std.proofs.lemmas.Nat.{le_bytes_2, le_bytes_4}
use Rattle.byteorder.specs.Endian.{little_from, little_bytes}
use Rattle.byteorder.specs.Numbers.{little_from-take}

-- bytes, and none past their end
abbrev pub AreBytes : List ℕ → Type 0
AreBytes bytes = (i : ℕ) → get_or bytes i 0 < 256

pub AreBytes-drop : (n : ℕ) (bytes : List ℕ) → AreBytes bytes → AreBytes (drop n bytes)
AreBytes-drop n bytes fits i = rw get_or-drop (fits (n + i))

AreBytes-take : (n : ℕ) (bytes : List ℕ) → AreBytes bytes → AreBytes (take n bytes)
AreBytes-take n bytes fits i =
    elim (cases_lt i n) [
      | inl lt ↦ rw (get_or-take n bytes i 0 lt) (fits i)
      | inr le ↦ rw (get_or_past (take n bytes) i 0 (omega (arith, length-take n bytes))) (omega arith)
    ]

little_from-drop : (n i j k : ℕ) (bytes : List ℕ) → j ≡ k + i → little_from j n bytes ≡ little_from i n (drop k bytes)
little_from-drop zero i j k bytes place = refl
little_from-drop (suc n) i j k bytes place =
    let byte : get_or (drop k bytes) i 0 ≡ get_or bytes j 0 = get_or-drop k bytes i 0 ∙ ap (λ (m : ℕ). get_or bytes m 0) (sym place) in
    let rest = little_from-drop n (suc i) (suc j) k bytes (omega arith) in
    rw (byte, rest) refl

-- a number is a matter of its own bytes
little_from-own : (n k : ℕ) (bytes : List ℕ) → little_from k n bytes ≡ little_from 0 n (take n (drop k bytes))
little_from-own n k bytes = little_from-drop n 0 k k bytes (omega arith) ∙ sym (little_from-take 0 n n (drop k bytes) (omega arith))

pub two_bytes : (k : ℕ) (bytes : List ℕ) → AreBytes bytes → k + 2 ≤ length bytes → little_bytes 2 (little_from k 2 bytes) ≡ take 2 (drop k bytes)
two_bytes k bytes fits long =
    let own : List ℕ = take 2 (drop k bytes) in
    let read : little_from 0 2 own ≡ from_le_bytes w16 own = omega arith in
    le_bytes_2 own (little_from k 2 bytes) (omega (arith, length-take 2 (drop k bytes), length-drop k bytes)) (AreBytes-take 2 _ (AreBytes-drop k bytes fits)) (little_from-own 2 k bytes ∙ read)

pub four_bytes : (k : ℕ) (bytes : List ℕ) → AreBytes bytes → k + 4 ≤ length bytes → little_bytes 4 (little_from k 4 bytes) ≡ take 4 (drop k bytes)
four_bytes k bytes fits long =
    let own : List ℕ = take 4 (drop k bytes) in
    let read : little_from 0 4 own ≡ from_le_bytes w32 own = omega arith in
    le_bytes_4 own (little_from k 4 bytes) (omega (arith, length-take 4 (drop k bytes), length-drop k bytes)) (AreBytes-take 4 _ (AreBytes-drop k bytes fits)) (little_from-own 4 k bytes ∙ read)
