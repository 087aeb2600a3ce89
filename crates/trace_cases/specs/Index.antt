-- The lines of the index.
use Rattle.std.specs.Prelude.{◌≡◌, ◌⊎◌, ℕ, ◌<◌, List, [], ◌∷◌, codes}
use Rattle.std.specs.Str.Parse.{digits_value, without_leading_plus}
use Rattle.trace_cases.specs.declared.case.Front.{Front}
use Rattle.trace_cases.specs.declared.case.Front.TheVariants.{Whole, Cut, EachCut}

-- the words that say how much of a file is played
abbrev pub SaysFront : List (List ℕ) → Front → Type 0
SaysFront words Whole = words ≡ []
SaysFront words (Cut count) = (text : List ℕ) × (words ≡ codes "cut" ∷ text ∷ []) × (digits_value 10 (without_leading_plus text) ≡ count)
SaysFront words EachCut = words ≡ codes "cut-all" ∷ []

-- the words that say which bytes follow: none, or `then` and hexadecimals
abbrev pub SaysThen : List (List ℕ) → List ℕ → Type 0
SaysThen words hex = ((words ≡ []) × (hex ≡ [])) ⊎ (words ≡ codes "then" ∷ hex ∷ [])

-- whether a front of so many bytes of a file is played
abbrev pub IsPlayed : Front → ℕ → ℕ → Type 0
IsPlayed Whole length count = count ≡ length
IsPlayed (Cut front) length count = count ≡ front
IsPlayed EachCut length count = count < length

-- whether a front is longer than the file
abbrev pub IsBeyond : Front → ℕ → Type 0
IsBeyond (Cut front) length = length < front
IsBeyond _ length = ⊥
