-- A list of eight is its elements.
use Rattle.std.proofs.Common.{◌≡◌, ◌<◌, ◌≤◌, ◌∙◌, sym, ap, ℕ, suc, List, [], ◌∷◌, length, drop, get_or, arith}
use Rattle.std.proofs.Math.Seq.{drop-cons}
use Rattle.std.proofs.Math.ListN.{drop_of_length-le}

next : {A : Type 0} (xs : List A) (d : A) (k : ℕ) (rest : List A) → k < length xs → drop (suc k) xs ≡ rest → drop k xs ≡ get_or xs k d ∷ rest
next xs d k rest inside same = drop-cons xs k d inside ∙ ap (λ tail. get_or xs k d ∷ tail) same

pub eight : {A : Type 0} (xs : List A) (d : A) → length xs ≡ 8
    → get_or xs 0 d ∷ get_or xs 1 d ∷ get_or xs 2 d ∷ get_or xs 3 d ∷ get_or xs 4 d ∷ get_or xs 5 d ∷ get_or xs 6 d ∷ get_or xs 7 d ∷ [] ≡ xs
eight xs d count =
    let whole : length xs ≤ 8 = omega arith in
    let end : drop 8 xs ≡ [] = drop_of_length-le xs whole in
    sym
    (next xs d 0 _ (omega arith) (next xs d 1 _ (omega arith) (next xs d 2 _ (omega arith) (next xs d 3 _ (omega arith)
    (next xs d 4 _ (omega arith) (next xs d 5 _ (omega arith) (next xs d 6 _ (omega arith) (next xs d 7 _ (omega arith) end))))))))
