-- A command line of one word.
use Rattle.std.proofs.Common.{◌≡◌, ◌∙◌, ℕ, Bool, true, List, [], ◌∷◌, length, get_or, map, eqb, sym, ap, arith}
use Rattle.std.specs.Prelude.{String, codes}
use Rattle.std.specs.Global.{Global}
use Rattle.std.specs.String.{string_bytes}
use Rattle.std.specs.Cmp.Lexicographic.{pointwise}
use Rattle.std.proofs.lemmas.Slice.Eq.{bytes_eq-Decides}
use Rattle.glplay.specs.Words.{IsPlay}

one_word : (words : List (String Global)) (only : String Global) → length words ≡ 1 → only ≡ get_or words 0 only → map string_bytes words ≡ string_bytes only ∷ []
one_word [] only one is = absurd (omega arith)
one_word (word ∷ []) only one is = ap (λ (w : String Global). string_bytes w ∷ []) (sym is)
one_word (word ∷ next ∷ words) only one is = absurd (omega arith)

first_of : (a b : List ℕ) → a ∷ [] ≡ b ∷ [] → a ≡ b
first_of a b e = cc

-- the one word is compared with `play`
pub play_or_not : (words : List (String Global)) (only : String Global) (text : List ℕ) (same : Bool) → length words ≡ 1 → only ≡ get_or words 0 only → text ≡ string_bytes only
    → same ≡ pointwise eqb text (codes "play") → (same ≡ true → IsPlay words) × (IsPlay words → same ≡ true)
play_or_not words only text same one is bytes compared =
    let alone = one_word words only one is in
    let decided = bytes_eq-Decides text (codes "play") in
    (λ yes. alone ∙ ap (λ (w : List ℕ). w ∷ []) (sym bytes ∙ decided.0 (sym compared ∙ yes)), λ play. compared ∙ decided.1 (bytes ∙ first_of _ _ (sym alone ∙ play)))
