-- Which primitive stands where in a list of them.
use Rattle.std.proofs.Common.{◌≡◌, ℕ, ◌+◌, ◌<◌, List, [], ◌∷◌, ◌++◌, Some, length, get_or, sym, ap, ◌∙◌, zero-add, arith, length-append}
use Rattle.std.proofs.Math.Seq.{get_or-append_seam}
use Rattle.std.proofs.lemmas.List.{get_or_append_left}
use Rattle.std.specs.Prelude.{slice_get}
use Rattle.std.proofs.lemmas.List.FromFn.{get_or-map-range_with_len, length-map-range_with_len}
use Rattle.std.proofs.lemmas.Option.{slice_get_read}
use Rattle.prim_assembly.specs.Primitives.{each}

pub length-each : (primitive : ℕ → List ℕ) (amount : ℕ) → length (each primitive amount) ≡ amount
unfolding each
length-each primitive amount = length-map-range_with_len primitive 0 amount

pub slice_get-each : (primitive : ℕ → List ℕ) (amount k : ℕ) → k < amount → slice_get (each primitive amount) k ≡ Some (primitive k)
unfolding each
slice_get-each primitive amount k h =
    slice_get_read (each primitive amount) amount k (primitive k) (sym (length-each primitive amount)) h
    (sym (get_or-map-range_with_len primitive 0 amount k k (primitive k) h (zero-add k)))

-- a list of primitives with one more at its end
pub length-joined : (primitive : ℕ → List ℕ) (amount : ℕ) (last : List ℕ) → length (each primitive amount ++ last ∷ []) ≡ amount + 1
length-joined primitive amount last = omega (arith, length-append (each primitive amount) (last ∷ []), length-each primitive amount)

pub slice_get-joined_front : (primitive : ℕ → List ℕ) (amount k : ℕ) (last : List ℕ) → k < amount
    → slice_get (each primitive amount ++ last ∷ []) k ≡ Some (primitive k)
unfolding each
slice_get-joined_front primitive amount k last h =
    slice_get_read (each primitive amount ++ last ∷ []) (amount + 1) k (primitive k) (sym (length-joined primitive amount last)) (omega arith)
    (sym (get_or-map-range_with_len primitive 0 amount k k (primitive k) h (zero-add k))
    ∙ sym (get_or_append_left (each primitive amount) (last ∷ []) (primitive k) k (rw length-each h)))

pub slice_get-joined_last : (primitive : ℕ → List ℕ) (amount : ℕ) (last : List ℕ) → slice_get (each primitive amount ++ last ∷ []) amount ≡ Some last
slice_get-joined_last primitive amount last =
    let all = each primitive amount in
    let long : length all ≡ amount = length-each primitive amount in
    slice_get_read (all ++ last ∷ []) (amount + 1) amount last (sym (length-joined primitive amount last)) (omega arith)
    (sym (get_or-append_seam all last [] last) ∙ ap (λ n. get_or (all ++ last ∷ []) n last) long)

pub ruleset places = (length-each, slice_get-each, length-joined, slice_get-joined_front, slice_get-joined_last)
