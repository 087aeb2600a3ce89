-- A piece that goes out in parts.
use Rattle.std.proofs.Common.{◌≡◌, ◌-◌, ℕ, List, ◌++◌, length, take, drop, Option, sym, ap, ◌∙◌, append_assoc, arith}
use Rattle.std.specs.Io.KnownBytes.{Appends}
use Rattle.std.proofs.KnownBytes.{Appends-trans}
use Rattle.std.proofs.lemmas.List.{take_all, take-append-drop, length-drop}

-- the slice from place n on
from_place : (n : ℕ) (rest : List ℕ) → take (length rest - n) (drop n rest) ≡ drop n rest
from_place n rest = take_all (length rest - n) (drop n rest) (omega (arith, length-drop n rest))

-- after n more bytes of the rest went out, the piece is what went out and what is left
pub puts_more : (a b c : Option (List ℕ)) (piece front rest : List ℕ) (n : ℕ) → piece ≡ front ++ rest → Appends a b front → Appends b c (take n rest)
    → (x : List ℕ) × (piece ≡ x ++ take (length rest - n) (drop n rest)) × Appends a c x
puts_more a b c piece front rest n parts before more =
    let split : rest ≡ take n rest ++ take (length rest - n) (drop n rest) = sym (take-append-drop n rest) ∙ ap (λ (l : List ℕ). take n rest ++ l) (sym (from_place n rest)) in
    let joined = append_assoc front (take n rest) (take (length rest - n) (drop n rest)) in
    (front ++ take n rest, parts ∙ ap (λ (l : List ℕ). front ++ l) split ∙ sym joined, Appends-trans a b c front (take n rest) before more)
