-- Lists of so many words.
use Rattle.std.proofs.Common.{◌≡◌, ◌≤◌, ◌<◌, ℕ, List, [], ◌∷◌, length, get_or, map, refl, ap, ◌∙◌, Bor, arith}

pub one_word : (words : List (Bor (List ℕ))) (other : Bor (List ℕ)) → 1 ≤ length words → length words < 2
    → map (λ word. word.now) words ≡ (get_or words 0 other).now ∷ []
one_word [] other least most = absurd (omega arith)
one_word (a ∷ []) other least most = refl
one_word (a ∷ b ∷ words) other least most = absurd (omega arith)

pub two_words : (words : List (Bor (List ℕ))) (other : Bor (List ℕ)) → 2 ≤ length words → length words < 3
    → map (λ word. word.now) words ≡ (get_or words 0 other).now ∷ (get_or words 1 other).now ∷ []
two_words [] other least most = absurd (omega arith)
two_words (a ∷ []) other least most = absurd (omega arith)
two_words (a ∷ b ∷ []) other least most = refl
two_words (a ∷ b ∷ c ∷ words) other least most = absurd (omega arith)

pub three_words : (words : List (Bor (List ℕ))) (other : Bor (List ℕ)) → 3 ≤ length words → length words < 4
    → map (λ word. word.now) words ≡ (get_or words 0 other).now ∷ (get_or words 1 other).now ∷ (get_or words 2 other).now ∷ []
three_words [] other least most = absurd (omega arith)
three_words (a ∷ []) other least most = absurd (omega arith)
three_words (a ∷ b ∷ []) other least most = absurd (omega arith)
three_words (a ∷ b ∷ c ∷ []) other least most = refl
three_words (a ∷ b ∷ c ∷ d ∷ words) other least most = absurd (omega arith)

pub five_words : (words : List (Bor (List ℕ))) (other : Bor (List ℕ)) → 5 ≤ length words → length words < 6
    → map (λ word. word.now) words ≡ (get_or words 0 other).now ∷ (get_or words 1 other).now ∷ (get_or words 2 other).now
    ∷ (get_or words 3 other).now ∷ (get_or words 4 other).now ∷ []
five_words [] other least most = absurd (omega arith)
five_words (a ∷ []) other least most = absurd (omega arith)
five_words (a ∷ b ∷ []) other least most = absurd (omega arith)
five_words (a ∷ b ∷ c ∷ []) other least most = absurd (omega arith)
five_words (a ∷ b ∷ c ∷ d ∷ []) other least most = absurd (omega arith)
five_words (a ∷ b ∷ c ∷ d ∷ e ∷ []) other least most = refl
five_words (a ∷ b ∷ c ∷ d ∷ e ∷ f ∷ words) other least most = absurd (omega arith)

-- words of which one or two are known
pub with_second : (words : List (List ℕ)) (a b known : List ℕ) (rest : List (List ℕ)) → words ≡ a ∷ b ∷ rest → b ≡ known → words ≡ a ∷ known ∷ rest
with_second words a b known rest are is = are ∙ ap (λ (word : List ℕ). a ∷ word ∷ rest) is

pub with_second_and_fourth : (words : List (List ℕ)) (a b c d e known other : List ℕ) → words ≡ a ∷ b ∷ c ∷ d ∷ e ∷ [] → b ≡ known → d ≡ other
    → words ≡ a ∷ known ∷ c ∷ other ∷ e ∷ []
with_second_and_fourth words a b c d e known other are is fourth =
    with_second words a b known _ are is ∙ ap (λ (word : List ℕ). a ∷ known ∷ c ∷ word ∷ e ∷ []) fourth
