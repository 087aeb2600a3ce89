-- The bytes of a list from a place on; a byte outside of the list is 0.
use Rattle.std.specs.Prelude.{ℕ, ◌+◌, List, [], ◌∷◌, slice_index}
use Rattle.std.specs.Int.{w16, from_le_bytes}

abbrev pub two_at : List ℕ → ℕ → List ℕ
two_at bytes start = slice_index bytes start ∷ slice_index bytes (start + 1) ∷ []

abbrev pub three_at : List ℕ → ℕ → List ℕ
three_at bytes start = slice_index bytes start ∷ slice_index bytes (start + 1) ∷ slice_index bytes (start + 2) ∷ []

abbrev pub four_at : List ℕ → ℕ → List ℕ
four_at bytes start =
    slice_index bytes start ∷ slice_index bytes (start + 1) ∷ slice_index bytes (start + 2) ∷ slice_index bytes (start + 3) ∷ []

-- two bytes as a number, the low one first
abbrev pub short_at : List ℕ → ℕ → ℕ
short_at bytes start = from_le_bytes w16 (two_at bytes start)
